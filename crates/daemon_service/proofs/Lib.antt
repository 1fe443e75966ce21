mod Fronts
mod SentParts
mod Receiving
mod Refusing
mod Assembling
mod Causing
mod Calling
pub mod Services
pub mod Runs
