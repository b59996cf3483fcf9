pub mod Sized
pub mod Kept
