pub mod Left
pub mod Operated
pub mod Step
