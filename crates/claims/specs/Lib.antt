pub mod Examples
pub mod Table
pub mod Agreement
pub mod ExportedAgreement
pub mod Joining
pub mod ExportedJoining
pub mod OneCheck
pub mod ExportedOneCheck
