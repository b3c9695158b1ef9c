pub mod Rows
pub mod Velocities
pub mod Sets
pub mod Laws
