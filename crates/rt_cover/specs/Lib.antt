-- What the public contracts of this crate say, in three parts. Definitions that contracts name
-- stand here. In reading order: Cover (which listens supply which listeners, the fewest of them,
-- and their tags), State (the cover, its three changes, what they tell, and their refusals), Shown
-- (what is promised of what is shown and told), Apart (that plain listens stand apart), Runs (any
-- changes, one after another), Errors. laws/ has what is proved of them for callers, and examples
-- that the prover computes; inside/ has what only the code's invariant and its tests of tags need.
pub mod Cover
pub mod State
pub mod Shown
pub mod Apart
pub mod Runs
pub mod Errors
pub mod laws
pub mod inside
