pub mod Injective
pub mod Limits
pub mod Lines
pub mod Parts
pub mod Single
pub mod Visible
pub mod Words
