pub mod Operation
pub mod Word
