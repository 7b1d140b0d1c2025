pub mod Word
pub mod Line
pub mod Fault
pub mod Reading
