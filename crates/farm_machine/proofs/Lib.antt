pub mod Prefixes
pub mod Outs
pub mod Reading
pub mod Steps
pub mod Answering
