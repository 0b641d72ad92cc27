mod Known
mod Pieces
mod PlainLaws
