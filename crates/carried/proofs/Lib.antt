pub mod Operands
pub mod Flags
pub mod Results
