-- Laws stated for callers.
pub mod Counting
pub mod Runs
