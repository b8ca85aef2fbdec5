pub mod Balances
pub mod Runs
pub mod Tellings
pub mod Silence
pub mod Blocked
