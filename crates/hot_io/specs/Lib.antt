pub mod Faults
pub mod MemSink
pub mod MemSource
pub mod Reading
pub mod Real
pub mod Writing
