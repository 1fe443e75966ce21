pub mod EndTexts
pub mod Pieces
pub mod Numbers
