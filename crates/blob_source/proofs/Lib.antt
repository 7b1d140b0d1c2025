pub mod Puts
pub mod AheadLemmas
pub mod LineFeeds
pub mod LineLemmas
