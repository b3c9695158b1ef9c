-- The rows of a body file, as definitions on whole byte lists.
pub mod Columns
pub mod Rows
pub mod Reading
