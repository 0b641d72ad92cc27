-- What a reader must believe stands here; what only the code needs stands in inside/.
-- In reading order: State (what lines act on), Doing (what a line does to it, and what it prints; its lines
-- and their texts are those of rt_lines), Run (a run over an input).
-- laws/ has scripts that the prover computes.
pub mod Doing
pub mod inside
pub mod laws
pub mod Run
pub mod State
