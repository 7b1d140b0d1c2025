pub mod Urls
pub mod Owners
pub mod Changes
