pub mod Every
pub mod InUse
pub mod Rounding
