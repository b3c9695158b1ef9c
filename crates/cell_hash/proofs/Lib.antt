pub mod Chained
pub mod Entered
