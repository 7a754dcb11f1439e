pub mod Responding
pub mod Responses
