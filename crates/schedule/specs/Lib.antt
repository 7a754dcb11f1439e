pub mod Days
pub mod Entries
pub mod Operations
pub mod Spans
pub mod Laws
