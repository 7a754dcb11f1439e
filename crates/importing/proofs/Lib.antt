pub mod HexDigits
pub mod Counters
pub mod Sizes
pub mod Splits
pub mod RowForms
pub mod NextRows
pub mod Places
pub mod ReadsTables
