pub mod Files
pub mod Ranges
pub mod Parts
pub mod Reading
pub mod Stopping
pub mod NextCells
