pub mod Attempts
pub mod Answers
pub mod Links
pub mod Pieces
pub mod Landings
