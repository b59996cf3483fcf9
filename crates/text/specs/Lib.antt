pub mod Columns
pub mod Row
pub mod Text
