pub mod State
pub mod Addresses
pub mod Stops
pub mod Lawful
