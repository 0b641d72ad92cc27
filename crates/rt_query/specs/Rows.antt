-- Rows and their keys.
use Rattle.std.specs.Prelude.{◌≡◌, false, List, [], ◌∷◌, Option, None}
use Rattle.std.specs.List.{find, AllByRecursion}
use Rattle.std.specs.Option.{option_map}
use Rattle.rt_tree.specs.PathTree.{Key, PathTree, key_eq, is_null}
use Rattle.rt_query.specs.declared.row.Row.{Row}

-- the value under a key
abbrev pub row_at : List Row → Key → Option PathTree
row_at rows k = option_map (λ r. r.value) (find (λ r. key_eq r.key k) rows)

-- no key stands twice
abbrev pub HasDistinctKeys : List Row → Type 0
HasDistinctKeys [] = Unit {0}
HasDistinctKeys (r ∷ rs) = (row_at rs r.key ≡ None) × HasDistinctKeys rs

-- no row is null
abbrev pub HasNoNull : List Row → Type 0
HasNoNull rows = AllByRecursion (λ r. is_null r.value ≡ false) rows
