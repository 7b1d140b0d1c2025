pub mod Ends
pub mod Many
pub mod Moves
pub mod Told
