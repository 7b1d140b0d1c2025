pub mod Descent
pub mod Leaves
pub mod Nodes
pub mod Written
