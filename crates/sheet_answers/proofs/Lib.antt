pub mod Numbers
pub mod Opened
