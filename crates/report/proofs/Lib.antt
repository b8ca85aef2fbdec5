pub mod Idle
pub mod Speaking
pub mod Fairness
