pub mod Faults
pub mod Memory
pub mod Lines
pub mod Parts
