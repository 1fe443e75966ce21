pub mod Counts
pub mod OwnNames
pub mod Loads
pub mod Staging
pub mod Views
