pub mod Sizes
pub mod Pulls
pub mod Sides
pub mod Forces
pub mod Cells
pub mod Narrowing
