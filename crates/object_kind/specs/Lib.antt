pub mod Drivers
pub mod Formats
pub mod Asked
