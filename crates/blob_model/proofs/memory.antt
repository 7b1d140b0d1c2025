pub mod Shrinking
pub mod Steps
pub mod Grants
pub mod NewSources
pub mod Builds
pub mod Plans
pub mod PlainAnswers
pub mod Bounded
