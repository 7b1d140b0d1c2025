pub mod SlotLemmas
pub mod Lengths
pub mod PieceLemmas
pub mod ReadyLemmas
pub mod FaultLemmas
