pub mod Ranges
pub mod Readers
pub mod Refusals
pub mod Answers
pub mod Groups
