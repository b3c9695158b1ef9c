pub mod Pieces
pub mod Spans
pub mod Laws
