-- Which entries meet which listeners: pairs of a listener's number and the place of an entry.
use Rattle.std.specs.Prelude.{◌≡◌, ℕ, ◌<◌, Bool, true, ◌&&◌, List, Option, length, get_or, ◌==◌}
use Rattle.std.specs.declared.cmp.Ordering.{Ordering}
use Rattle.std.specs.declared.cmp.Ordering.TheVariants.{Less}
use Rattle.std.specs.List.{All, AllPairs, list_any, slice_get}
use Rattle.std.specs.Option.{option_and_then}
use Rattle.std.specs.Ordering.{nat_cmp, ordering_then}
use Rattle.rt_tree.specs.PathTree.{Key, Path}
use Rattle.rt_tree.specs.Assignments.{Assignment, do_overlap}
use Rattle.rt_writes.specs.Writes.{Write}
use Rattle.rt_cache.specs.Brought.{Brought}
use Rattle.rt_view.specs.Views.{View}
use Rattle.rt_world.specs.Touched.{named_by}
use Rattle.rt_world.specs.World.{Listener}
use Rattle.rt_query.specs.Queries.{Query}
use Rattle.rt_parts.specs.declared.listeners.HeldListener.{HeldListener}
use Rattle.rt_parts.specs.declared.places.ListenerPlace.{ListenerPlace}
use Rattle.rt_parts.specs.Refreshed.{FollowsNamed, hears}

-- by number, and of one number by the entry
abbrev pub met_cmp : ℕ × ℕ → ℕ × ℕ → Ordering
met_cmp a b = ordering_then (nat_cmp a.0 b.0) (nat_cmp a.1 b.1)

-- each pair stands in front of all behind it
abbrev pub AreUp : List (ℕ × ℕ) → Type 0
AreUp pairs = AllPairs (λ a b. met_cmp a b ≡ Less) pairs

-- what is among the ones is among the others
abbrev pub KeepsPairs : List (ℕ × ℕ) → List (ℕ × ℕ) → Type 0
KeepsPairs old new = (p : ℕ × ℕ → Bool) → list_any p old ≡ true → list_any p new ≡ true

-- each entry that sits at, above or below the path has its pair with the number
abbrev pub HasPairs : List Assignment → List (ℕ × ℕ) → ℕ → Path → Type 0
HasPairs entries pairs number path =
    (i : ℕ) (a : Assignment) → i < length entries → do_overlap (get_or entries i a).0 path ≡ true
    → list_any (λ o. number == o.0 && i == o.1) pairs ≡ true

-- so it is of each place
abbrev pub HavePairs : List Assignment → List (ℕ × ℕ) → List ListenerPlace → Type 0
HavePairs entries pairs places = All (λ x. HasPairs entries pairs x.number x.path) places

-- each entry that sits at, above or below the path is among the own ones
abbrev pub HasOwn : List Assignment → List (ℕ × ℕ) → Path → Type 0
HasOwn entries own path =
    (i : ℕ) (a : Assignment) → i < length entries → do_overlap (get_or entries i a).0 path ≡ true
    → list_any (λ o. i == o.1) own ≡ true

-- the child of the path that the entry of a pair names
abbrev pub named_at : Path → List Assignment → ℕ × ℕ → Option Key
named_at path entries o = option_and_then (named_by path) (slice_get entries o.1)

-- what is asked of a listener that is to be refreshed
pub record IsDue (entries : List Assignment) (b : Brought) (writes : List Write)
    (met : List (ℕ × ℕ)) (p : Listener × Option View) : Type 0 where
  pub follow : FollowsNamed entries b writes p
  pub own : HasPairs entries met p.0.number p.0.query.path

-- each of the numbers has its pair with each of so many entries
abbrev pub HaveAll : ℕ → List ℕ → List (ℕ × ℕ) → Type 0
HaveAll count numbers pairs =
    (n i : ℕ) → i < count → list_any (λ m. n == m) numbers ≡ true
    → list_any (λ o. n == o.0 && i == o.1) pairs ≡ true

-- the pairs of entries with the listeners that they are handed to, in order: those that hear of the entries
pub record AreHanded (range : Option Query) (entries : List Assignment) (pairs : List (ℕ × ℕ))
    (held : List HeldListener) : Type 0 where
  pub up : AreUp pairs
  pub all :
      All (λ (l : HeldListener). hears range l.query ≡ true
      → HasPairs entries pairs l.number l.query.path) held
  pub only :
      All (λ (l : HeldListener). list_any (λ o. l.number == o.0) pairs ≡ true → hears range l.query ≡ true) held
