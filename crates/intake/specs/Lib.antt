pub mod Intake
pub mod Answers
