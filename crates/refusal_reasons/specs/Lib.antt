pub mod Advice
pub mod Faults
