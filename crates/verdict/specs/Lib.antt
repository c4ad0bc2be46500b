pub mod Length
pub mod Verdict
pub mod Told
