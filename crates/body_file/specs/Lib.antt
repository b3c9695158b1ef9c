-- The bodies of body files, and the faults that their bytes decide.
pub mod Faults
pub mod Files
pub mod Laws
pub mod Reading
pub mod Sources
