pub mod Names
pub mod Slices
pub mod Texts
pub mod Pieces
pub mod Gains
pub mod Blocks
