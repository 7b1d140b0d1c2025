mod Names
pub mod NameBytes
pub mod Keyed
pub mod Ranges
