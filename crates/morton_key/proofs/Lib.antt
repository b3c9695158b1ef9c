pub mod Numbers
pub mod KeyLaws
pub mod Places
pub mod Hints
pub mod Axes
