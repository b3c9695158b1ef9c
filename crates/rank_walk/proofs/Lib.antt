-- Lemmas on what a walk leaves.
pub mod Leavings
