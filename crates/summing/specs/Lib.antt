pub mod Text
pub mod Statements
