pub mod Helps
pub mod Puts
pub mod Programs
pub mod Forms
pub mod Fetches
pub mod Links
