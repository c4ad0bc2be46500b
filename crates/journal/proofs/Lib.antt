pub mod Lists
pub mod Words
pub mod Damage
pub mod Room
pub mod Undo
pub mod Undoing
pub mod Back
