pub mod Limits
pub mod Refusals
pub mod Pages
pub mod Steps
pub mod Runs
pub mod Energy
pub mod Blocks
