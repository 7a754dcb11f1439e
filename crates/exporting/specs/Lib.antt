pub mod Text
pub mod RowText
pub mod Exporting
pub mod Statements
