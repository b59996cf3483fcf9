pub mod Input
pub mod Sums
