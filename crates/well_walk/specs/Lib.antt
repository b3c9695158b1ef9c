pub mod Limits
pub mod Wells
pub mod Visit
pub mod Additions
pub mod Totals
pub mod Laws
