pub mod Listing
pub mod Tops
pub mod Laws
pub mod Merged
