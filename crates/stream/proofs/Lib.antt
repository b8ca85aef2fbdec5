pub mod Cuts
pub mod Piecewise
