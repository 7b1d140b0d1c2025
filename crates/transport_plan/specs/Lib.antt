pub mod Plan
pub mod Spans
