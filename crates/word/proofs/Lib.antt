pub mod Bounds
pub mod Asking
