pub mod FileLemmas
mod Removing
