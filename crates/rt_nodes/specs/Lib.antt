-- The definitions that the contracts name, to be read in this order:
--   Forest    rows of nodes as they are linked in a slab
--   Walks     where keys and paths lead from a row
--   Changes   how the nodes change
--   Nodes     what a contract sees of the nodes
-- inside/ has what only the representation needs.
pub mod Changes
pub mod Forest
pub mod inside
pub mod Nodes
pub mod Walks
