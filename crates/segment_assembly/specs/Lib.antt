pub mod Assembly
pub mod Slots
