pub mod Digits
pub mod Spreads
pub mod Keys
pub mod Signed
pub mod Members
pub mod Sorts
pub mod Numbers
pub mod Bodies
