-- A view that is changed child by child.
use Rattle.std.specs.Prelude.{ℕ, Bool, ◌+◌, ◌%◌, ◌^◌, false, not, ◌&&◌, ◌||◌, List, [], ◌∷◌, length}
use Rattle.std.specs.Prelude.{Some, is_some}
use Rattle.std.specs.List.{list_any}
use Rattle.rt_tree.specs.PathTree.{Key, PathTree, key_eq, is_null, leaf_of}
use Rattle.rt_tree.specs.PathTree as tree
use Rattle.rt_tree.specs.Children.{children_of}
use Rattle.rt_query.specs.Queries.{Query}
use Rattle.rt_query.specs.Select.{Shown, select}
use Rattle.rt_view.specs.declared.change.Change.{Change}
use Rattle.rt_view.specs.Changes.{changes}

-- a query; the tree that it was given last, with each touched child put into it since; how many
-- children the last call took anew; how many such calls there were, modulo 2^64; and whether one of
-- them lacked memory
pub record View : Type 0 where
  pub query : Query
  pub tree : PathTree
  pub reads : ℕ
  pub turns : ℕ
  pub failed : Bool

-- what a view shows: its query over its tree
abbrev pub shown_of : View → Shown
shown_of v = select v.query v.tree

-- the first view of a tree takes all its children
abbrev pub first_view : Query → PathTree → View
first_view q t = record {
  query = q;
  tree = t;
  reads = length (children_of t);
  turns = 1;
  failed =
      false;
}

-- the view with another tree, for which so many children were taken anew
abbrev pub turned : View → PathTree → ℕ → View
turned v t reads = record {
  query = v.query;
  tree = t;
  reads = reads;
  turns =
      (v.turns + 1) % 2 ^ 64;
  failed = false;
}

-- another tree in place of the one that was known takes all old and all new children, one in both twice
abbrev pub renewed : View → PathTree → View
renewed v t = turned v t (length (children_of v.tree) + length (children_of t))

-- the tree with the named children in place of its own, one after another; null takes a child out
abbrev pub with_named : PathTree → List (Key × PathTree) → PathTree
with_named t [] = t
with_named t (c ∷ cs) = with_named (tree.put t (c.0 ∷ []) c.1) cs

-- named children in place of the tree's own take these children
abbrev pub touched : View → List (Key × PathTree) → View
touched v named = turned v (with_named v.tree named) (length named)

-- the changes, by the query's index, from what one view shows to what the next one shows
abbrev pub told : View → View → List Change
told old new = changes old.query.index (Some (shown_of old)) (shown_of new)

-- whether a child is there once the named ones are put in: one of these, or another that was there
abbrev pub leaves_child : PathTree → List (Key × PathTree) → Bool
leaves_child t named = list_any (λ c. not (is_null c.1)) named
    || list_any (λ c. not (list_any (λ d. key_eq d.0 c.0) named)) (children_of t)

-- whether there is no leaf, and a child is there once the named ones are put in
abbrev pub stays_object : PathTree → List (Key × PathTree) → Bool
stays_object t named = not (is_some (leaf_of t)) && leaves_child t named
