-- What the prover computes of some texts.
pub mod Examples
