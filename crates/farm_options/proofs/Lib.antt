mod OptionReading
mod CommandLemmas
pub mod Periods
pub mod Reading
pub mod Within
