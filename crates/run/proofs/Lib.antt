pub mod Compose
pub mod Arriving
pub mod Answers
