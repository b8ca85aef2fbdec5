pub mod Euclid
pub mod Doors
