pub mod Ends
pub mod Notices
pub mod Accepting
pub mod Views
