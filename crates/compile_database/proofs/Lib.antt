pub mod ItemLists
pub mod EntryLemmas
pub mod LineLemmas
pub mod DatabaseLemmas
pub mod Telling
pub mod Listed
pub mod WordReading
