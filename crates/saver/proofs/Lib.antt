pub mod Pieces
pub mod Saving
