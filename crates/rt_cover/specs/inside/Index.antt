-- The same elements in the order of their forms.
use Rattle.std.specs.Prelude.{◌≡◌, ◌&&◌, Bool, false, not, List}
use Rattle.std.specs.declared.cmp.Ordering.{Ordering}
use Rattle.std.specs.List.{count_by, list_any}
use Rattle.std.specs.List.Sorted.{IsSorted}
use Rattle.rt_tree.specs.PathTree.{path_eq}
use Rattle.rt_query.specs.Queries.{Query, is_filtered}
use Rattle.rt_query.specs.QueryEq.{query_eq}
use Rattle.rt_query.specs.QueryOrder.{query_cmp}
use Rattle.rt_query.specs.Ranges.{takes_in}
use Rattle.rt_cover.specs.Cover.{Tagged}

-- the form of a kept listen
abbrev pub form_of : Tagged → Query
form_of k = k.form

-- two elements by their forms: by path, and of one path by the order of queries
abbrev pub by_form : {X : Type 0} → (X → Query) → X → X → Ordering
by_form form x y = query_cmp (form x) (form y)

-- as many of each kind
abbrev pub SameCounts : {X : Type 0} → List X → List X → Type 0
SameCounts {X} xs ys = (p : X → Bool) → count_by p xs ≡ count_by p ys

-- the same elements, in the order of their forms
pub record IsIndex {X : Type 0} (form : X → Query) (xs by_path : List X) : Type 0 where
  pub sorted : IsSorted (by_form form) by_path
  pub same : SameCounts by_path xs

-- whether the one is another form, whose range takes in the other's
abbrev pub is_taker : Query → Query → Bool
is_taker f g = not (query_eq f g) && takes_in f g

-- none of them takes in another one
abbrev pub AreApart : {X : Type 0} → (X → Query) → List X → Type 0
AreApart form xs = list_any (λ x. list_any (λ y. is_taker (form x) (form y)) xs) xs ≡ false

-- whether the one is plain and the other a range of its path
abbrev pub is_plain_beside : Query → Query → Bool
is_plain_beside f g = not (is_filtered f) && (is_filtered g && path_eq f.path g.path)

-- no range is at the path of a plain one
abbrev pub ArePlainsAlone : {X : Type 0} → (X → Query) → List X → Type 0
ArePlainsAlone form xs = list_any (λ x. list_any (λ y. is_plain_beside (form x) (form y)) xs) xs ≡ false
