pub mod Lengths
pub mod Fronts
pub mod Taking
pub mod Once
