-- Lemmas on reports.
pub mod Joins
pub mod CellsInPlay
pub mod Reports
pub mod Openings
pub mod Sums
