pub mod Children
pub mod Ends
pub mod Counts
pub mod Notices
pub mod Runs
pub mod Serving
pub mod Views
