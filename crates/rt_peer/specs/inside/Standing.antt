-- Entries that write what stands where they write.
use Rattle.std.specs.Prelude.{Bool, not, ◌&&◌, ◌||◌, List}
use Rattle.std.specs.List.{list_any, list_all}
use Rattle.rt_tree.specs.PathTree.{Path, PathTree, sub}
use Rattle.rt_tree.specs.Trees.{tree_eq}
use Rattle.rt_tree.specs.Assignments.{Assignment, is_at_or_above}

-- an entry at or below p writes what the tree has there
abbrev pub stands : PathTree → Path → Assignment → Bool
stands t p a = not (is_at_or_above p a.0) || tree_eq (sub t a.0) a.1

-- no entry is at or above p, and those below write what the tree has
abbrev pub leaves_part : PathTree → Path → List Assignment → Bool
leaves_part t p es = not (list_any (λ a. is_at_or_above a.0 p) es) && list_all (stands t p) es

-- at an entry at or below p two trees differ
abbrev pub tells_apart : PathTree → PathTree → Path → Assignment → Bool
tells_apart t u p a = is_at_or_above p a.0 && not (tree_eq (sub t a.0) (sub u a.0))
