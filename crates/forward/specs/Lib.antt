pub mod Traction
pub mod Stretch
pub mod Calls
