mod Connecting
pub mod Logging
mod KitMoves
mod Pathing
mod Working
pub mod Answering
