pub mod Places
pub mod Spans
pub mod Writing
pub mod Soundness
pub mod Laws
