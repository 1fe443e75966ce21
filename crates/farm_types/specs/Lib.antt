pub mod Bytes
pub mod Decimals
pub mod Exits
pub mod Fits
pub mod Limits
pub mod Rans
pub mod TrailFalls
pub mod Trails
