pub mod Rules
pub mod Walk
pub mod Words
pub mod Loading
pub mod Lawful
pub mod Wordless
