pub mod Hex
pub mod Splitting
pub mod Forms
pub mod Reading
pub mod Statements
