pub mod Words
pub mod Answers
pub mod OwnAnswers
pub mod Transcripts
pub mod Sessions
