pub mod Wires
pub mod Choices
pub mod Searches
pub mod Reductions
