-- Laws for callers, and outside examples.
pub mod Changes
pub mod Examples
pub mod Runs
