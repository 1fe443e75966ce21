pub mod Finishing
pub mod Bytewise
pub mod Pieces
pub mod Exact
