pub mod Mnemonic
pub mod Inner
