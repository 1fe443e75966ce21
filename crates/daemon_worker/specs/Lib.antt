pub mod Connections
pub mod Meetings
pub mod Logs
pub mod Paths
pub mod Workers
pub mod Rightness
