pub mod Steps
pub mod Outcomes
pub mod Kept
