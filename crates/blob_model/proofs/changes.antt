pub mod Notions
pub mod Places
