pub mod Judging
pub mod Counting
pub mod Statements
