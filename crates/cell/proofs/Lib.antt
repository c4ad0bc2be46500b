pub mod Tests
pub mod Opcodes
pub mod Listed
pub mod Fields
pub mod RoundTrip
