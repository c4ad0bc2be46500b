pub mod Outcome
pub mod Answers
pub mod Told
pub mod Printed
