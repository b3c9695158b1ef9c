pub mod Limits
pub mod Values
pub mod Numbers
pub mod Keys
pub mod Spread
pub mod Order
pub mod Bodies
pub mod Draws
