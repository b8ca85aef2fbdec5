pub mod Runs
pub mod Same
