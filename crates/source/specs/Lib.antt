pub mod Sources
pub mod Received
