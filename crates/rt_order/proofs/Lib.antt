pub mod CutLaws
pub mod Numerals
