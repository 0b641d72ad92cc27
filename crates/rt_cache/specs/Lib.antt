-- What the contracts speak of, in reading order: Brought (regions, windows, pushes), Recover (what
-- stays when the listens kept change), Canonical (what always holds),
-- Runs (what any list of calls leaves). Examples stand in laws; what only the
-- representation needs stands in inside.
pub mod Brought
pub mod Canonical
pub mod Recover
pub mod Runs
pub mod inside
pub mod laws
