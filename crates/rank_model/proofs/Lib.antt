pub mod Worlds
pub mod Owners
pub mod Aways
pub mod Asks
pub mod Demands
pub mod Counts
pub mod Homes
pub mod Records
pub mod Levels
pub mod Steps
pub mod Swaps
pub mod Bounds
mod Samples
