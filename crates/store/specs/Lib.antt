pub mod Layout
pub mod Operations
pub mod Start
pub mod Sound
pub mod Temperatures
pub mod Laws
