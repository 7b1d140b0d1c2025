pub mod Seen
pub mod Changed
pub mod Owned
pub mod Agreement
