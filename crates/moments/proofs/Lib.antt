pub mod Joins
pub mod Hints
pub mod Insides
