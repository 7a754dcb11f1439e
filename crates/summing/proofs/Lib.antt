pub mod Fields
pub mod Each
pub mod Lines
pub mod Shown
pub mod Summaries
pub mod Pieces
pub mod TextSize
pub mod Windows
