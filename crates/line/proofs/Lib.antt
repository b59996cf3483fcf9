pub mod Judging
pub mod Opening
