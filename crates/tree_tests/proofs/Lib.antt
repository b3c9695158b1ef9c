pub mod Hints
pub mod Listings
pub mod UnderWay
