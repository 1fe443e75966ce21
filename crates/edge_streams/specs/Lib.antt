pub mod Reading
pub mod Counts
pub mod Environment
pub mod Streams
pub mod Views
