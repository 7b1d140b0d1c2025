pub mod Ranges
pub mod SummaryRow
