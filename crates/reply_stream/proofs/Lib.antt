pub mod Finishing
pub mod Bytewise
pub mod Pieces
pub mod Spans
pub mod Exact
pub mod SoFar
