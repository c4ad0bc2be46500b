pub mod Steps
pub mod Keeps
pub mod Repeats
