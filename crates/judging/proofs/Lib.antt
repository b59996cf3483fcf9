pub mod Rules
pub mod Order
pub mod Checks
pub mod Admitting
