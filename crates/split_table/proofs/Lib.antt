pub mod Parts
pub mod Keyed
pub mod AllBranches
pub mod TopRecords
