pub mod Numerals
pub mod Statements
