pub mod Books
pub mod Shared
