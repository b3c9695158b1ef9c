-- Lemmas on the ranks of a set.
pub mod Pieces
pub mod Finds
pub mod Making
pub mod Finishes
pub mod Settling
