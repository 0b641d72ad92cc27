-- Where listeners stand by path.
use Rattle.std.specs.Prelude.{◌≡◌, ◌≤◌, ◌<◌, ℕ, Bool, true, List, get_or, length, map}
use Rattle.std.specs.declared.cmp.Ordering.{Ordering}
use Rattle.std.specs.declared.cmp.Ordering.TheVariants.{Less}
use Rattle.std.specs.List.{All, AllPairs, list_any}
use Rattle.std.specs.Ordering.{nat_cmp, ordering_then}
use Rattle.std.specs.Prelude.{◌==◌, ◌&&◌}
use Rattle.rt_tree.specs.PathTree.{Path, path_cmp, path_eq}
use Rattle.rt_query.specs.Queries.{Query}
use Rattle.rt_parts.specs.declared.listeners.HeldListener.{HeldListener}
use Rattle.rt_parts.specs.declared.places.ListenerPlace.{ListenerPlace}

-- by path, and of one path by number
abbrev pub stand_cmp : Path × ℕ → Path × ℕ → Ordering
stand_cmp a b = ordering_then (path_cmp a.0 b.0) (nat_cmp a.1 b.1)

-- the path and the number of a place
abbrev pub stand_of : ListenerPlace → Path × ℕ
stand_of x = (x.path, x.number)

-- each stands in front of all behind it
abbrev pub AreInOrder : List ListenerPlace → Type 0
AreInOrder places = AllPairs (λ x y. stand_cmp (stand_of x) (stand_of y) ≡ Less) places

-- the place of a listener
abbrev pub placed : HeldListener → ListenerPlace
placed l = record { path = l.query.path; number = l.number; seat = l.seat }

-- the places of the listeners, in order
pub record IsIndex (held : List HeldListener) (places : List ListenerPlace) : Type 0 where
  pub order : AreInOrder places
  pub same : (p : ListenerPlace → Bool) → list_any p places ≡ list_any p (map placed held)

-- what has a number among the ones has one among the others
abbrev pub Keeps : List ℕ → List ℕ → Type 0
Keeps old new = (p : ℕ → Bool) → list_any p old ≡ true → list_any p new ≡ true

-- the numbers of those that pass are among these
abbrev pub HaveNumbers : (ListenerPlace → Bool) → List ℕ → List ListenerPlace → Type 0
HaveNumbers test numbers places =
    All (λ x. test x ≡ true → list_any (λ n. x.number == n) numbers ≡ true) places

-- whether the place has a pair with the entry among these
abbrev pub is_paired : ℕ → List (ℕ × ℕ) → ListenerPlace → Bool
is_paired entry pairs x = list_any (λ o. x.number == o.0 && entry == o.1) pairs

-- of the places from one on those that pass are found
abbrev pub HaveFrom : (ListenerPlace → Bool) → (ListenerPlace → Bool) → List ListenerPlace → ℕ → Type 0
HaveFrom test found places from =
    (k : ℕ) (d : ListenerPlace) → from ≤ k → k < length places → test (get_or places k d) ≡ true
    → found (get_or places k d) ≡ true

-- the numbers of those at the paths of these queries are among these
abbrev pub HaveAt : List Query → List ℕ → List ListenerPlace → Type 0
HaveAt queries numbers places =
    HaveNumbers (λ x. list_any (λ q. path_eq q.path x.path) queries) numbers places
