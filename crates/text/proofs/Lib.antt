pub mod Placed
pub mod Room
pub mod Rows
