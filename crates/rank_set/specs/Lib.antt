pub mod Sharings
pub mod Efforts
pub mod Made
pub mod Standing
pub mod Places
