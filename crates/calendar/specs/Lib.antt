pub mod Dates
pub mod Statements
