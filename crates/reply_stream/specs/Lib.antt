pub mod Parts
pub mod Objects
pub mod Taking
pub mod Reader
