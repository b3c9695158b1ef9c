pub mod Idents
pub mod ForcesText
pub mod ForcesSdf
pub mod SdfReader
