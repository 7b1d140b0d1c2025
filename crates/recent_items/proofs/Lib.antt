pub mod Order
pub mod Victims
