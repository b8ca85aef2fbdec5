pub mod Leasts
pub mod Lesser
