pub mod Lowest
pub mod Past
pub mod Covering
pub mod Walk
