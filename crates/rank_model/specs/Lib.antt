pub mod World
pub mod Split
pub mod Branches
pub mod Needs
pub mod Answers
pub mod Homes
pub mod Pairs
