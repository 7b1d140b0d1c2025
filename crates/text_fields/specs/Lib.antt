pub mod Fields
pub mod Status
pub mod Kind
pub mod Reading
pub mod Keyword
pub mod Output
pub mod Counted
