pub mod Words
pub mod Journal
pub mod Undos
