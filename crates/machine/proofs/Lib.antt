pub mod Tests
pub mod Parts
pub mod Words
pub mod Named
pub mod Checks
pub mod Flags
