pub mod Behind
pub mod Walk
