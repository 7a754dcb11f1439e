-- Laws that several proofs cite.
pub mod RowTexts
pub mod RowSteps
pub mod RowRecords
pub mod Rooms
pub mod Steps
pub mod Fits
pub mod Bounds
pub mod Tables
pub mod Captures
pub mod Windows
pub mod Pieces
