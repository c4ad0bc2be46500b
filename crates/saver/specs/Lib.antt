pub mod Saving
pub mod Answers
pub mod Inner
