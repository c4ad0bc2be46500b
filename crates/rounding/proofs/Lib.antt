pub mod Compared
pub mod Digits
pub mod Known
pub mod Multiples
pub mod ToNearest
pub mod Units
