-- Laws for callers, and what the prover computes of literals.
pub mod Answering
pub mod Crossing
pub mod Examples
pub mod Following
pub mod Keeping
pub mod Reflecting
pub mod Showing
pub mod Telling
