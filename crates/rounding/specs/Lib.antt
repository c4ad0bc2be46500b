pub mod Nearest
pub mod Rounding
