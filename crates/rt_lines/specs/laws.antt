-- What the prover computes of some lines.
pub mod Examples
