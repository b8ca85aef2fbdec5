pub mod Tails
pub mod Panels
