pub mod Fields
pub mod Known
pub mod Once
