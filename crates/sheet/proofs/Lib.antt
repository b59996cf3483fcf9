pub mod InUse
pub mod Refused
