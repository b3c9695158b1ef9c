-- The header of a body file, as definitions on whole byte lists.
pub mod Limits
pub mod Types
pub mod Parts
pub mod Fields
pub mod Statements
pub mod Extent
pub mod Layouts
pub mod Verdict
pub mod Reading
pub mod Generated
