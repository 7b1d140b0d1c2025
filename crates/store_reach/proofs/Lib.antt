pub mod Sets
pub mod Windows
pub mod Living
pub mod Listing
