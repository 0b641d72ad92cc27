mod Pieces
mod Staying
