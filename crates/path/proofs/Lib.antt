pub mod Tried
pub mod Answers
