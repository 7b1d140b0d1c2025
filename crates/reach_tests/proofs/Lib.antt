pub mod Roots
pub mod Room
