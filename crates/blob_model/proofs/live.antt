pub mod Least
pub mod Names
pub mod Closed
pub mod Roots
pub mod Agreement
pub mod Reached
pub mod Unreached
