-- The definitions that the contracts name, to be read in this order:
--   Rows      the children of a tree in the order of keys, and the rows that a walk meets
--   Stored    what a contract sees of a store, and when nothing changed
--   Runs      the tree after any list of changes
--   Errors    the number and the name of each refusal
-- laws/ has what is stated for callers. inside/ has what only the representation needs.
pub mod Errors
pub mod inside
pub mod laws
pub mod Rows
pub mod Runs
pub mod Stored
