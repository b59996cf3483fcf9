pub mod Places
pub mod Decoded
