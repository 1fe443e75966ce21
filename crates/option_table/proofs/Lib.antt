pub mod Distinct
pub mod Faulting
pub mod Pieces
pub mod Positions
pub mod Searching
pub mod Sorting
pub mod Indexing
