pub mod Limits
pub mod Branches
pub mod Beginnings
pub mod Inner
pub mod Assemblies
