pub mod Lines
pub mod Fields
pub mod Rows
pub mod Ending
pub mod Exporting
pub mod Importing
pub mod Statements
