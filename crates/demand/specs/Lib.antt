pub mod Cases
pub mod Journey
pub mod Forward
pub mod Exit
pub mod Demands
pub mod Reload
