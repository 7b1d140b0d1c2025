pub mod Counts
pub mod Steps
pub mod Groups
pub mod Numbers
