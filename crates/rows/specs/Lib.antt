pub mod Rows
pub mod Sets
pub mod Layout
pub mod Columns
pub mod Start
pub mod Rule
