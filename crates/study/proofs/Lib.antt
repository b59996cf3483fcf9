pub mod Adding
pub mod Through
pub mod Least
pub mod Numbers
