-- Pending writes and what they lay over a tree.
use Rattle.std.specs.Prelude.{ℕ, ◌+◌, ◌≤◌, ◌==◌, Bool, not, List, [], ◌∷◌, ◌++◌, length}
use Rattle.std.specs.Prelude.{Option, Some, None}
use Rattle.std.specs.List.{fold, filter, find, flat_map, list_any}
use Rattle.std.specs.Option.{option_map}
use Rattle.rt_tree.specs.declared.limits.TheConstants.{MAX_LEVELS}
use Rattle.rt_tree.specs.PathTree.{Key, Path, strip, PathTree, sub, put, levels}
use Rattle.rt_tree.specs.Assignments.{is_at_or_above, do_overlap, Assignment}

-- a write: its number, and its entries in order
pub record Write : Type 0 where
  pub id : ℕ
  pub entries : List Assignment

-- the entries of the writes, one after another
abbrev pub assignments : List Write → List Assignment
assignments writes = flat_map (λ w. w.entries) writes

-- no leaf of a tree at p stands under more than 32 keys
abbrev pub IsShallow : Assignment → Type 0
IsShallow a = length a.0 + levels a.1 ≤ MAX_LEVELS

-- ---- the overlay

-- t under an entry u, given what follows the entry's path in the tree's, or the tree's in the
-- entry's
abbrev pub overlaid_by : Option Path → Option Path → PathTree → PathTree → PathTree
overlaid_by (Some rest) _ t u = sub u rest
overlaid_by None (Some rest) t u = put t rest u
overlaid_by None None t u = t

-- the tree at p after one entry: at or above p it gives its part, below p it is put, elsewhere it
-- does nothing
abbrev pub overlaid : Path → PathTree → Assignment → PathTree
overlaid p t a = overlaid_by (strip a.0 p) (strip p a.0) t a.1

-- the tree at p after each entry of each write, in order
abbrev pub overlay : Path → PathTree → List Write → PathTree
overlay p t writes = fold (overlaid p) t (assignments writes)

-- whether an entry sits at, above or below the path
abbrev pub touches : List Write → Path → Bool
touches writes p = list_any (λ a. do_overlap a.0 p) (assignments writes)

-- whether an entry sits at or above the path
abbrev pub sets_whole : List Write → Path → Bool
sets_whole writes p = list_any (λ a. is_at_or_above a.0 p) (assignments writes)

-- whether an entry sits at or above the child's path
abbrev pub sets_child_whole : List Write → Path → Key → Bool
sets_child_whole writes p k = sets_whole writes (p ++ k ∷ [])

-- ---- settling

-- the entries of the write of that number, if it is pending
abbrev pub entries_of : ℕ → List Write → Option (List Assignment)
entries_of id writes = option_map (λ w. w.entries) (find (λ w. w.id == id) writes)

-- the other writes
abbrev pub without : ℕ → List Write → List Write
without id writes = filter (λ w. not (w.id == id)) writes
