-- Laws for callers, outside examples, and what calls must not leave.
pub mod Examples
pub mod False
pub mod Runs
pub mod Windows
