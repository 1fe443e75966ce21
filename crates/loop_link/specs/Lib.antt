pub mod Ends
pub mod Pipes
pub mod Replies
pub mod Following
pub mod Links
pub mod Dialers
pub mod Exchanges
pub mod Onces
