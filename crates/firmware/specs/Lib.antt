pub mod Reply
pub mod Controller
pub mod Client
pub mod Packet
pub mod Exported
