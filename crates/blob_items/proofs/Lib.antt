pub mod StartLemmas
pub mod CellLemmas
pub mod FindLemmas
pub mod CutLemmas
