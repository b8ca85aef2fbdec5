pub mod Limits
pub mod Lines
pub mod Records
pub mod Faults
pub mod Answers
pub mod Words
pub mod Inner
