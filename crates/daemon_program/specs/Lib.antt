pub mod Texts
pub mod Books
pub mod Counts
pub mod Endings
pub mod Daemons
pub mod Complete
pub mod Sharing
