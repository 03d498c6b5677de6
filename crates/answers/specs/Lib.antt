pub mod Answers
pub mod Told
