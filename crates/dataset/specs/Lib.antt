pub mod Reply
pub mod Captures
pub mod Tables
pub mod Refusals
