pub mod Writes
pub mod Refusals
pub mod Done
