mod ByPieces
mod IntoFiles
mod Passing
mod Attempting
