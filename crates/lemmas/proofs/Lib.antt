pub mod Integers
pub mod Ring
pub mod Balance
pub mod Offers
pub mod Unique
