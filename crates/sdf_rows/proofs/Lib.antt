-- Lemmas on rows and their places.
pub mod Places
pub mod Steps
pub mod Ends
