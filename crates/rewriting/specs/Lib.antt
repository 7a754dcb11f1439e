pub mod Rewriting
pub mod Statements
