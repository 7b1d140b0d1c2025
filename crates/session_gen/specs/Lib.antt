pub mod Words
pub mod Gen
pub mod Summary
