pub mod Endings
pub mod Pass
pub mod LateAnswers
pub mod Removals
pub mod GrantsAndJobs
pub mod Settling
pub mod Groups
pub mod Refused
