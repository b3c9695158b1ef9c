pub mod Insertions
pub mod Picks
pub mod Gaps
pub mod Folds
pub mod Members
pub mod Hints
