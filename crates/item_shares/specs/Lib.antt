pub mod Shares
pub mod Weights
