pub mod FirstFault
pub mod Coordinates
pub mod Growing
pub mod Adding
