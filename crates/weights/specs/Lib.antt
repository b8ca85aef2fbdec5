pub mod Limits
pub mod Weights
