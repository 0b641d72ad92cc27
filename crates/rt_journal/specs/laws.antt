pub mod Crossing
pub mod Reading
