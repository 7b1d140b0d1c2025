pub mod Kept
pub mod NewBlobs
pub mod Lines
pub mod Groups
