-- Laws for callers.
pub mod Walks
