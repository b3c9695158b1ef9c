pub mod Cuts
pub mod Keys
pub mod Passes
pub mod Lists
