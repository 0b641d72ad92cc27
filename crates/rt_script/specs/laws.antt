-- What the prover computes of some scripts.
pub mod Scripts
