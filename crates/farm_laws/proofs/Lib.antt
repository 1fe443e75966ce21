pub mod SetAt
pub mod Draws
pub mod Callers
pub mod Unread
pub mod Woven
pub mod NothingLost
pub mod Below
pub mod Grants
pub mod Kept
pub mod KeptByAll
pub mod Farms
pub mod Up
pub mod Worker
pub mod Drivers
pub mod Reported
mod ExampleCalls
mod ExampleCourses
mod ExampleWorkers
