pub mod Profile
pub mod Answers
