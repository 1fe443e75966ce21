pub mod Connections
pub mod Service
