pub mod Helps
pub mod Names
pub mod Options
pub mod Commands
pub mod Tables
