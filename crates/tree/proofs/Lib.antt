pub mod Caches
pub mod Growing
pub mod Heard
