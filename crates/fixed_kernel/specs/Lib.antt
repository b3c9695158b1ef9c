pub mod Ratio
pub mod Visit
pub mod Laws
pub mod Tried
pub mod Additions
pub mod Between
pub mod Softened
pub mod Tables
