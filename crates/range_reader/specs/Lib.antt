pub mod Bytes
pub mod Places
pub mod Steps
pub mod Parts
pub mod Ends
