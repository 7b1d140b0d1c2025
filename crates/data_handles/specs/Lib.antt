pub mod Handles
pub mod Table
pub mod Slots
pub mod Boxes
pub mod Calls
