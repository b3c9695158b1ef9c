pub mod Hints
pub mod Terms
pub mod Quotients
pub mod Folds
pub mod Bounds
pub mod Growth
