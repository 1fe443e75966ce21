pub mod Limits
pub mod Mask
pub mod Step
pub mod Grants
pub mod History
pub mod Laws
pub mod Backoff
pub mod Log
