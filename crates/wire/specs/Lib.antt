pub mod Desk
pub mod Policies
pub mod Starving
