pub mod Ways
pub mod Joints
pub mod Adaptors
pub mod Joins
pub mod Adapted
pub mod Whole
