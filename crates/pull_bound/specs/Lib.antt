-- How near pulls and forces are to Newton's, without real numbers.
pub mod Exact
pub mod Sums
pub mod Brackets
pub mod Laws
