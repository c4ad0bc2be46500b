pub mod Numbers
pub mod Lengths
pub mod Cases
pub mod Decimals
pub mod Once
