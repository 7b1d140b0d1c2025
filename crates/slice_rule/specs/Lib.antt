pub mod Range
pub mod Kind
