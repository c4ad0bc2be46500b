pub mod Action
pub mod Operands
pub mod Parts
pub mod Effect
pub mod Refusal
pub mod Becomes
