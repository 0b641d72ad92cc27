-- What the tree of paths keeps of the pending writes.
use Rattle.std.specs.Prelude.{◌≡◌, ◌≤◌, ◌<◌, ◌==◌, ℕ, Bool, true, false, not, ◌&&◌, ◌||◌, List, [], ◌∷◌}
use Rattle.std.specs.Prelude.{◌++◌, ◌⊎◌, max, nat_lt, Option, Some, None, is_some, if◌then◌else◌}
use Rattle.std.specs.List.{All, fold, filter, find, list_any, slice_get}
use Rattle.std.specs.Option.{option_map, option_map_or, option_and_then}
use Rattle.std.specs.Ordering.{nat_cmp}
use Rattle.std.specs.BTreeMap.{BTreeMap, get}
use Rattle.std.specs.BTreeSet.{BTreeSet, contains}
use Rattle.rt_tree.specs.PathTree.{Key, Path, PathTree, null, is_null, of_leaf, key_cmp, path_eq, put, sub}
use Rattle.rt_tree.specs.Leaf.{truth}
use Rattle.rt_tree.specs.Assignments.{Assignment, is_at_or_above, have_overlap}
use Rattle.rt_writes.specs.declared.marks.Marks.{Marks}
use Rattle.rt_writes.specs.declared.spots.Spot.{Spot}
use Rattle.rt_writes.specs.declared.spots.Spot.TheViews.{out-Spot}
use Rattle.rt_writes.specs.Kept.{IsKept}
use Rattle.rt_writes.specs.Writes.{Write, assignments, overlaid, overlay}

-- the writes that set the whole of what stands at the spot, each with the place of its entry; what is
-- known of the entries there or below, their numbers and the tree that they make; and the spots one
-- key further down
abbrev pub here_of : Spot → BTreeMap ℕ ℕ
here_of s = (out-Spot s).here

abbrev pub under_of : Spot → Marks
under_of s = (out-Spot s).under

abbrev pub below_of : Spot → BTreeMap Key Spot
below_of s = (out-Spot s).below

-- the spot at q
abbrev pub spot_at : Spot → Path → Option Spot
spot_at s [] = Some s
spot_at s (k ∷ q) = option_and_then (λ c. spot_at c q) (get key_cmp (below_of s) k)

-- the place of the entry of write j at q, among its entries
abbrev pub place_at : Spot → Path → ℕ → Option ℕ
place_at s [] j = get nat_cmp (here_of s) j
place_at s (k ∷ q) j = option_map_or (λ c. place_at c q j) (get key_cmp (below_of s) k) None

-- whether write j sets the whole of what stands at q
abbrev pub has_here : Spot → Path → ℕ → Bool
has_here s [] j = is_some (get nat_cmp (here_of s) j)
has_here s (k ∷ q) j = option_map_or (λ c. has_here c q j) (get key_cmp (below_of s) k) false

-- whether write j has an entry at or below q
abbrev pub has_under : Spot → Path → ℕ → Bool
has_under s [] j = contains nat_cmp (under_of s).all j
has_under s (k ∷ q) j = option_map_or (λ c. has_under c q j) (get key_cmp (below_of s) k) false

-- whether write j sets something at or below q
abbrev pub has_full : Spot → Path → ℕ → Bool
has_full s [] j = contains nat_cmp (under_of s).full j
has_full s (k ∷ q) j = option_map_or (λ c. has_full c q j) (get key_cmp (below_of s) k) false

-- the tree that is kept at q, if one is
abbrev pub tree_at : Spot → Path → Option PathTree
tree_at s [] = (under_of s).tree
tree_at s (k ∷ q) = option_map_or (λ c. tree_at c q) (get key_cmp (below_of s) k) None

-- no number
pub record IsNone (m : Marks) : Type 0 where
  pub all : m.all.keys ≡ []
  pub full : m.full.keys ≡ []

-- nothing is kept of any write
pub record IsBare (s : Spot) : Type 0 where
  pub here : (here_of s).entries ≡ []
  pub under : IsNone (under_of s)
  pub below : (below_of s).entries ≡ []

-- of two tests, one of whether it is so now and one of whether it was before: new has at each path
-- and number what F says, and the place at the keys
pub record Changes (F : Bool → Bool → Bool) (place : Option ℕ) (fills : Bool) (old new : Spot)
    (keys : Path) (id : ℕ) : Type 0 where
  pub places : (q : Path) (j : ℕ)
      → place_at new q j ≡ (if path_eq keys q && (id == j) then place else place_at old q j)
  pub under : (q : Path) (j : ℕ)
      → has_under new q j ≡ F (is_at_or_above q keys && (id == j)) (has_under old q j)
  pub full : (q : Path) (j : ℕ)
      → has_full new q j ≡ F ((is_at_or_above q keys && fills) && (id == j)) (has_full old q j)

-- write id sets the whole of what stands at the keys, too, by the entry at that place
abbrev pub Adds : Spot → Spot → Path → ℕ → ℕ → Bool → Type 0
Adds old new keys id place fills = Changes (λ now before. now || before) (Some place) fills old new keys id

-- write id sets nothing there any more, and nothing below what stands above
abbrev pub Forgets : Spot → Spot → Path → ℕ → Type 0
Forgets old new keys id = Changes (λ now before. not now && before) None true old new keys id

-- whether the entry at a place has that path
abbrev pub is_entry : List Assignment → ℕ → Path → Bool
is_entry es i q = option_map_or (λ a. path_eq a.0 q) (slice_get es i) false

-- ---- the trees that spots keep
-- the entries at or below the path
abbrev pub within : List Assignment → Path → List Assignment
within es q = filter (λ a. is_at_or_above q a.0) es

-- a tree that is kept, once u is put below these keys: at the path itself u is kept from then on
abbrev pub with_put : Option PathTree → Path → PathTree → Option PathTree
with_put o [] u = Some u
with_put o (k ∷ p) u = option_map (λ t. put t (k ∷ p) u) o

-- what is kept once these entries came: what was kept, with those at or below its path laid over; and
-- at the path of one of them their own
abbrev pub AddsTrees : Spot → Spot → List Assignment → Type 0
AddsTrees old new es = (q : Path) (u : PathTree) → tree_at new q ≡ Some u
    → (t : PathTree) × (u ≡ fold (overlaid q) t (within es q))
    × ((list_any (λ a. path_eq a.0 q) es ≡ true) ⊎ (tree_at old q ≡ Some t))

-- what is kept once these entries of write id went: what was kept, away from their paths, and where a
-- later write sets the whole of what stands there
abbrev pub KeepsTrees : Spot → Spot → List Assignment → ℕ → Type 0
KeepsTrees old new es id = (q : Path) (u : PathTree) → tree_at new q ≡ Some u
    → (tree_at old q ≡ Some u)
    × ((list_any (λ a. is_at_or_above q a.0) es ≡ false) ⊎ ((j : ℕ) × (id < j) × (has_here old q j ≡ true)))

-- of other writes than id, and away from some paths, all is as it was: at says where it may set the whole
-- now, and on where it may have an entry at or below
pub record KeepsBut (at on : Path → Bool) (old new : Spot) (id : ℕ) : Type 0 where
  pub here : (q : Path) (j : ℕ) → (at q && (id == j)) ≡ false → has_here new q j ≡ has_here old q j
  pub under : (q : Path) (j : ℕ) → (on q && (id == j)) ≡ false
      → has_under new q j ≡ has_under old q j
  pub full : (q : Path) (j : ℕ) → (on q && (id == j)) ≡ false → has_full new q j ≡ has_full old q j
  pub places : (q : Path) (j i : ℕ) → (id == j) ≡ false → place_at new q j ≡ Some i
      → place_at old q j ≡ Some i
  pub trees : (q : Path) (u : PathTree) → on q ≡ false → tree_at new q ≡ Some u
      → tree_at old q ≡ Some u

-- u is the part below these keys of the tree that is kept at or above them, where write j sets the
-- whole of what stands
abbrev pub KeepsPart : Spot → Path → ℕ → PathTree → Type 0
KeepsPart s keys j u = (x : Path) × (y : Path) × (t : PathTree)
    × (keys ≡ x ++ y) × (has_here s x j ≡ true) × (tree_at s x ≡ Some t) × (u ≡ sub t y)

-- the same of each entry of a write
pub record ChangesAll (F : Bool → Bool → Bool) (fills : Assignment → Bool) (old new : Spot)
    (es : List Assignment) (id : ℕ) : Type 0 where
  pub here : (q : Path) (j : ℕ)
      → has_here new q j ≡ F (list_any (λ a. path_eq a.0 q) es && (id == j)) (has_here old q j)
  pub under : (q : Path) (j : ℕ)
      → has_under new q j ≡ F (list_any (λ a. is_at_or_above q a.0) es && (id == j)) (has_under old q j)
  pub full : (q : Path) (j : ℕ)
      → has_full new q j
      ≡ F (list_any (λ a. is_at_or_above q a.0 && fills a) es && (id == j)) (has_full old q j)
  pub places : (q : Path) (j i : ℕ) → place_at new q j ≡ Some i
      → ((id ≡ j) × (is_entry es i q ≡ true)) ⊎ (place_at old q j ≡ Some i)

-- whether an entry sets something
abbrev pub is_full : Assignment → Bool
is_full a = not (is_null a.1)

abbrev pub AddsAll : Spot → Spot → List Assignment → ℕ → Type 0
AddsAll = ChangesAll (λ now before. now || before) is_full

abbrev pub ForgetsAll : Spot → Spot → List Assignment → ℕ → Type 0
ForgetsAll = ChangesAll (λ now before. not now && before) (λ a. true)

-- write j sets the whole of what stands at or above the keys
abbrev pub IsAbove : Spot → Path → ℕ → Type 0
IsAbove s keys j = (x : Path) × (y : Path) × (keys ≡ x ++ y) × (has_here s x j ≡ true)

-- the greatest number of which P holds, if there is one
abbrev pub IsLast : (ℕ → Type 0) → Option ℕ → Type 0
IsLast P None = (j : ℕ) → P j → ⊥
IsLast P (Some m) = P m × ((j : ℕ) → P j → j ≤ m)

-- the greater of two numbers, where there are any
abbrev pub later_of : Option ℕ → Option ℕ → Option ℕ
later_of None right = right
later_of (Some m) None = Some m
later_of (Some m) (Some n) = Some (max m n)

-- ---- what it has to be of the writes
-- whether write j passes
abbrev pub some_write : (Write → Bool) → List Write → ℕ → Bool
some_write test writes j = list_any (λ w. (w.id == j) && test w) writes

-- whether an entry of write j passes
abbrev pub some_entry : (Assignment → Bool) → List Write → ℕ → Bool
some_entry test writes j = some_write (λ w. list_any test w.entries) writes j

-- what the spot at x is of the writes
pub record IsMergedAt (writes : List Write) (x : Path) (s : Spot) : Type 0 where
  pub here : (q : Path) (j : ℕ) → has_here s q j ≡ some_entry (λ a. path_eq a.0 (x ++ q)) writes j
  pub under : (q : Path) (j : ℕ) → has_under s q j ≡ some_entry (λ a. is_at_or_above (x ++ q) a.0) writes j
  pub full : (q : Path) (j : ℕ)
      → has_full s q j ≡ some_entry (λ a. is_at_or_above (x ++ q) a.0 && is_full a) writes j
  pub places : (q : Path) (j i : ℕ) → place_at s q j ≡ Some i
      → some_write (λ w. is_entry w.entries i (x ++ q)) writes j ≡ true
  pub trees : (q : Path) (u : PathTree) → tree_at s q ≡ Some u
      → u ≡ fold (overlaid (x ++ q)) null (within (assignments writes) (x ++ q))

abbrev pub IsMerged : List Write → Spot → Type 0
IsMerged writes s = IsMergedAt writes [] s

-- no two entries of a write overlap
abbrev pub AreApart : List Write → Type 0
AreApart writes = All (λ w. have_overlap w.entries ≡ false) writes

-- what is so of the pending writes and of their tree
pub record IsPending (writes : List Write) (merged : Spot) : Type 0 where
  pub kept : IsKept writes
  pub apart : AreApart writes
  pub tree : IsMerged writes merged

-- ---- what a look reads
-- whether a number is after the last one; each is where there is none
abbrev pub is_later : Option ℕ → ℕ → Bool
is_later None j = true
is_later (Some m) j = nat_lt m j

-- one of the numbers is after the last one
abbrev pub HasLater : Option ℕ → BTreeSet ℕ → Type 0
HasLater last numbers = (j : ℕ) × (is_later last j ≡ true) × (contains nat_cmp numbers j ≡ true)

-- the tree that is kept at the spot is all that shows there of what is after the last one: the last
-- write that sets the whole of what stands there is, and one that sets something
pub record IsShown (s : Spot) (last here : Option ℕ) (t : PathTree) : Type 0 where
  pub tree : (under_of s).tree ≡ Some t
  pub later : option_map_or (is_later last) here false ≡ true
  pub full : HasLater last (under_of s).full

-- the writes with later numbers
abbrev pub after : Option ℕ → List Write → List Write
after last writes = filter (λ w. is_later last w.id) writes

-- the entry at a place of a write
abbrev pub entry_at : List Write → ℕ → ℕ → Option Assignment
entry_at writes id i = option_and_then (λ w. slice_get w.entries i) (find (λ w. w.id == id) writes)

-- the tree at p after the write of that number, if there is a number
abbrev pub overlaid_last : Path → PathTree → List Write → Option ℕ → PathTree
overlaid_last p t writes None = t
overlaid_last p t writes (Some m) = overlay p t (filter (λ w. w.id == m) writes)

-- whether an entry at or below the path sets something
abbrev pub fills : List Assignment → Path → Bool
fills es x = list_any (λ a. is_at_or_above x a.0 && is_full a) es

-- these entries lay over a tree at x what the later writes do, though others lie between; all are at
-- or below x, and one sets something where one of the writes does there
pub record LaysAt (writes : List Write) (x : Path) (last : Option ℕ) (es : List Assignment) : Type 0 where
  pub within : list_any (λ a. not (is_at_or_above x a.0)) es ≡ false
  pub full : list_any is_full es ≡ fills (assignments (after last writes)) x
  pub same : (t : PathTree) → fold (overlaid x) t es ≡ overlay x t (after last writes)

-- these do so for the writes up to the last one that sets the whole of what stands at x
pub record SetsAt (writes : List Write) (x : Path) (last here : Option ℕ) (es : List Assignment)
    : Type 0 where
  pub within : list_any (λ a. not (is_at_or_above x a.0)) es ≡ false
  pub full : (list_any is_full es || fills (assignments (after (later_of last here) writes)) x)
      ≡ fills (assignments (after last writes)) x
  pub same : (t : PathTree) → overlay x (fold (overlaid x) t es) (after (later_of last here) writes)
      ≡ overlay x t (after last writes)

-- an entry, and before it, where it sets null and something was set in between, a leaf at its path
abbrev pub marked : Bool → Assignment → List Assignment
marked fills a = if fills && is_null a.1 then (a.0, of_leaf (truth true)) ∷ a ∷ [] else a ∷ []

-- some entries that may be laid
abbrev pub Laid : (List Assignment → Type 0) → Path → PathTree → PathTree → Type 0
Laid P p t u = (es : List Assignment) × (u ≡ fold (overlaid p) t es) × P es
