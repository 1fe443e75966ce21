pub mod Jobs
pub mod Works
pub mod Driven
pub mod Means
pub mod Marks
pub mod Workers
pub mod Runs
pub mod Watching
