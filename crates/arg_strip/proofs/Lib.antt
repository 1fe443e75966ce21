pub mod Filtered
pub mod Gathered
pub mod Kept
pub mod Labels
pub mod Laws
pub mod Outputs
pub mod Reading
pub mod StandardInput
