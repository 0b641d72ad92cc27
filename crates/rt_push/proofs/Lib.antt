pub mod DigitLaws
pub mod Rising
mod Texts
