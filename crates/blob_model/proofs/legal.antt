pub mod Fronts
pub mod SingleAnswers
pub mod SingleTranscript
pub mod Causes
pub mod PageNumbers
pub mod Steps
pub mod Totals
