pub mod Mnemonics
pub mod Texts
