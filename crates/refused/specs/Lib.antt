pub mod Wide
pub mod Lawful
