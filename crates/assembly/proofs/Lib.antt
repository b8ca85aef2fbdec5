pub mod Sums
pub mod OneTree
pub mod Stepped
pub mod Begun
pub mod Answered
pub mod Passed
