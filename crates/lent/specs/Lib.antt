pub mod Lesser
pub mod Little
