-- The tokens of a header, as definitions on byte lists.
pub mod Limits
pub mod Numbers
pub mod Tokens
