pub mod Sample
pub mod OneMore
pub mod Ties
pub mod Refusals
