pub mod Begun
pub mod Pieces
