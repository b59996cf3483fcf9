pub mod Nearing
pub mod Filling
pub mod Answers
