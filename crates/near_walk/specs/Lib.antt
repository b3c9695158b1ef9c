pub mod Limits
pub mod Ascending
pub mod Near
pub mod Laws
pub mod Additions
