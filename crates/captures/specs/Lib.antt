pub mod Numbers
pub mod Form
pub mod Reading
pub mod Writing
pub mod Statements
