-- What the prover computes of some items and texts.
pub mod Examples
