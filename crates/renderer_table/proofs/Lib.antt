pub mod Numbers
pub mod Changes
pub mod Lookups
pub mod Counting
