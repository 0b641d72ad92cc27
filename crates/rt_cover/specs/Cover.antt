-- The listens kept: the fewest registered forms that supply every listener.
use Rattle.std.specs.Prelude.{ℕ, Bool, not, List, [], ◌∷◌, ◌++◌, map}
use Rattle.std.specs.List.{filter, find, list_any, enumerate_from}
use Rattle.std.specs.Option.{option_map_or}
use Rattle.rt_query.specs.Queries.{Query}
use Rattle.rt_query.specs.QueryEq.{query_eq}
pub use Rattle.rt_query.specs.Needed.{Supplies, Supplying, IsFewest, needed}

-- ---- registered listeners

-- a listener's number, and the form that is listened to for it
abbrev pub Registered : Type 0
Registered = ℕ × Query

-- each element once, where it stands first
abbrev pub distinct : {X : Type 0} → (X → X → Bool) → List X → List X
distinct same [] = []
distinct same (x ∷ xs) = x ∷ filter (λ y. not (same x y)) (distinct same xs)

-- the registered forms, in order of their least-numbered listeners
abbrev pub forms : List Registered → List Query
forms listeners = distinct query_eq (map (λ l. l.1) listeners)

-- the least number of a listener of that form; the numbers rise
abbrev pub first_listener : List Registered → Query → ℕ
first_listener listeners f = option_map_or (λ l. l.0) (find (λ l. query_eq l.1 f) listeners) 0

-- ---- listens with tags

-- a kept form and its tag
pub record Tagged : Type 0 where
  pub tag : ℕ
  pub form : Query

-- whether a listen of the form is kept
abbrev pub is_kept : List Tagged → Query → Bool
is_kept kept f = list_any (λ k. query_eq k.form f) kept

-- the needed forms that are new get the next tags, in order
abbrev pub started : ℕ → List Tagged → List Query → List Tagged
started next_tag kept forms' =
    map (λ n. record { tag = n.0; form = n.1 })
    (enumerate_from next_tag (filter (λ f. not (is_kept kept f)) forms'))

-- the listens kept when these forms are needed: a form that stays keeps its tag
abbrev pub kept_for : ℕ → List Tagged → List Query → List Tagged
kept_for next_tag kept forms' =
    filter (λ k. list_any (query_eq k.form) forms') kept ++ started next_tag kept forms'
