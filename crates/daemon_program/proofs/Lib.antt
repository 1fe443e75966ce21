mod Telling
mod Beside
mod Tallies
mod Counting
mod Doing
mod Completing
mod SharesBeside
mod SharesCounting
mod SharesDoing
pub mod Alike
