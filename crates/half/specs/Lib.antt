pub mod Half
pub mod Kept
