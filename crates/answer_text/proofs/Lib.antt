pub mod Answers
pub mod Feeds
pub mod GroupLemmas
pub mod Injective
pub mod RowLemmas
pub mod Words
