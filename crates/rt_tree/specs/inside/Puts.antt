-- What a step of `put` and of reading does to the children of an object.
use Rattle.std.specs.Prelude.{◌≡◌, cond, List, [], ◌∷◌, Some}
use Rattle.std.specs.Option.{option_map_or}
use Rattle.rt_tree.specs.Leaves.{Key, Path, key_eq}
use Rattle.rt_tree.specs.Trees.{PathTree, null, is_null, put, child_of, non_null}

-- the child at k, or null
abbrev pub child_or_null : List (Key × PathTree) → Key → PathTree
child_or_null es k = option_map_or (λ t. t) (child_of es k) null

-- fs are the children of es after u came at p below k
abbrev pub PutsBelow : List (Key × PathTree) → List (Key × PathTree) → Key → Path → PathTree → Type 0
PutsBelow es fs k p u =
    (j : Key) → child_of fs j ≡ cond (key_eq k j) (non_null (put (child_or_null es k) p u))
    (child_of es j)

-- fs are the children of es with u at k, unless it is null
abbrev pub AddsChild : List (Key × PathTree) → List (Key × PathTree) → Key → PathTree → Type 0
AddsChild es fs k u =
    (j : Key) → child_of fs j ≡ cond (key_eq k j) (option_map_or Some (non_null u) (child_of es j))
    (child_of es j)

-- u at k, unless it is null
abbrev pub unless_null : Key → PathTree → List (Key × PathTree)
unless_null k u = cond (is_null u) [] ((k, u) ∷ [])
