pub mod Traction
pub mod Sweeping
pub mod Answers
