-- Lemmas on the faults of files.
pub mod RowLists
pub mod RowSteps
pub mod RowCounts
pub mod Headers
pub mod Takings
pub mod Endings
pub mod Pieces
pub mod Fronts
pub mod Readings
pub mod Lists
pub mod Verdicts
pub mod Batches
