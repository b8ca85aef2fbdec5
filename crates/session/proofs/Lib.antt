pub mod Turnings
pub mod Sums
