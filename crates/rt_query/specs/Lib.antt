-- What a reader must believe, in reading order: Queries (what a query is), Drafts (a query that is
-- being made), Bounds (what a bound sets), Calls (the calls on a draft, and when they are refused),
-- Errors (their numbers and names), Select (what a query shows of a tree), Rows (rows and their
-- keys), Ranges (which ranges take in others), Supply (which listen supplies which query), Needed (the
-- fewest that supply all), Apart (that plain ones stand apart), QueryEq (when queries and views
-- are equal) and QueryOrder (their order). laws/ has laws that are stated for callers, the lemmas that crates above cite, and
-- outside examples; inside/ what only the representation needs.
pub mod Apart
pub mod Bounds
pub mod Calls
pub mod Drafts
pub mod Errors
pub mod Needed
pub mod Queries
pub mod QueryEq
pub mod QueryOrder
pub mod Ranges
pub mod Rows
pub mod Select
pub mod Supply
pub mod inside
pub mod laws
