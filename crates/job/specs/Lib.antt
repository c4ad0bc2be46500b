pub mod Job
pub mod Answers
pub mod Inner
pub mod Loads
