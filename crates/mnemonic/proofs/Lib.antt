pub mod Pieces
pub mod Words
