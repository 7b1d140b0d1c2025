pub mod Table
pub mod Counts
pub mod Counted
