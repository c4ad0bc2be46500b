pub mod Branches
pub mod Targets
