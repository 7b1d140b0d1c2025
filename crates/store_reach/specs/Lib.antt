pub mod Sets
pub mod Reach
pub mod Counts
pub mod Lives
pub mod Windows
