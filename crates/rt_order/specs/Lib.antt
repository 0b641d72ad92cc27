-- What a reader must believe, in reading order: KeyOrder (the order of keys), Values (what a value
-- is sorted by, and the order of values), SortRef (a borrowed sort value), Entries (the order of a
-- path's children), Cuts (places between entries, and ranges), CutOrder (the order of cuts) and
-- Equality (when indexes, cuts and ranges are equal). laws/ has laws that are stated for callers, and
-- outside examples.
pub mod CutOrder
pub mod Cuts
pub mod Entries
pub mod Equality
pub mod KeyOrder
pub mod SortRef
pub mod Values
pub mod laws
pub use Rattle.rt_tree.specs.Leaf
pub use Rattle.rt_tree.specs.Path
pub use Rattle.rt_tree.specs.PathTree
pub use Rattle.rt_tree.specs.TreeEq
