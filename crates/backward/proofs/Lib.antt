pub mod Turns
pub mod Returns
