pub mod Lengths
pub mod Registers
pub mod Cases
pub mod Printed
pub mod Once
