pub mod Cutting
mod Deciding
