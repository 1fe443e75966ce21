pub mod Prints
pub mod Notices
pub mod Printing
pub mod Reads
