pub mod Places
pub mod Needs
pub mod Lives
pub mod Drops
pub mod Ends
pub mod Pass
pub mod Left
pub mod Passed
