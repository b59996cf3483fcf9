pub mod Bytes
pub mod Doubles
pub mod Drawing
pub mod Rows
pub mod Carrying
pub mod Numbers
pub mod Answers
