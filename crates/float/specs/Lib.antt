pub mod Arithmetic
pub mod Compare
pub mod Float
pub mod Meaning
pub mod Results
pub mod Whole
