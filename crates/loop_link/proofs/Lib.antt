mod Serviced
pub mod Honest
mod Holding
mod Unbroken
