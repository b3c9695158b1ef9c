pub mod Sortings
