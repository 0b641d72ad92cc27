-- What is stated for whoever calls this crate.
pub mod Crossing
