-- What the public contracts of this crate say. Definitions that contracts name stand here. In
-- reading order: Writes (a write, what pending writes lay over a tree, and settling), Kept (what is
-- so of all pending writes), Errors. laws/ has what is proved of them for callers, and examples that
-- the prover computes. inside/ has what only the representation needs: Spots, the tree of the paths
-- at which something is pending.
pub mod Writes
pub mod Kept
pub mod Errors
pub mod inside
pub mod laws
