pub mod Facts
pub mod Kernel
pub mod Second
pub mod Trees
pub mod Cells
pub mod Forces
