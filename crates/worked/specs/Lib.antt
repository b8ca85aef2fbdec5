pub mod Line
pub mod Door
pub mod Table
