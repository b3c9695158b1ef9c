pub mod Hints
pub mod Answer
pub mod Below
