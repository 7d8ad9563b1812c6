pub mod Keeps
pub mod Answers
