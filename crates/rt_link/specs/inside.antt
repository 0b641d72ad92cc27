-- What only the proofs of this crate need.
pub mod Counts
pub mod Rounds
pub mod Trials
