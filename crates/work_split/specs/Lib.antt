pub mod Values
pub mod Splits
pub mod Laws
