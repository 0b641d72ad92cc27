-- Known children that are linked, each with its key, its tree, and whether it lies above the lower cut of a
-- range.
use Rattle.std.specs.Prelude.{◌≡◌, ◌-◌, ◌++◌, ◌∷◌, [], ℕ, cond, not, List, Option, Some, None, map, length, take, drop}
use Rattle.std.specs.List.{AllByRecursion, filter}
use Rattle.std.specs.Ordering.{is_le}
use Rattle.rt_chain.specs.Chains.{Chain, all_in, head_or, last_or, slots_of}
use Rattle.rt_chain.specs.declared.chain.Half.{Half}
use Rattle.rt_chain.specs.declared.chain.Half.TheVariants.{Behind, Front}
use Rattle.rt_tree.specs.PathTree.{Key, PathTree}
use Rattle.rt_order.specs.declared.cut.Range.{Range}
use Rattle.rt_order.specs.Cuts.{has}
use Rattle.rt_order.specs.Entries.{Entry, entry_cmp}
use Rattle.rt_query.specs.declared.row.Row.{Row}
use Rattle.rt_query.specs.Select.{row_of}
use Rattle.rt_view.specs.declared.window.Child.{Child}
use Rattle.rt_view.specs.inside.Ranged.{Entries, Halved, IsSpread}

abbrev pub Linked : Type 0
Linked = List (Entry × (ℕ × Child))

abbrev pub children_in : Linked → Entries
children_in es = map (λ e. (e.0, e.1.1.value)) es

abbrev pub halves_of : Chain Entry Child → Halved
halves_of c = (children_in c.front, children_in c.behind)

-- all of them
abbrev pub linked_in : Chain Entry Child → Entries
linked_in c = (halves_of c).0 ++ (halves_of c).1

-- a child with the key of its entry, that knows whether this lies above the lower cut
abbrev pub IsMarked : Range → Entry × (ℕ × Child) → Type 0
IsMarked from e = (e.1.1.key ≡ e.0.1) × (e.1.1.above ≡ has from e.0)

abbrev pub AllMarked : Range → Chain Entry Child → Type 0
AllMarked from c = AllByRecursion (IsMarked from) (all_in c)

-- linked children round a range, each of which knows whether it lies above the lower cut
pub record IsRanged (from to : Range) (c : Chain Entry Child) (low high : ℕ) : Type 0 where
  pub spread : IsSpread from to (halves_of c) low high
  pub marks : AllMarked from c

-- children as they are linked, without their slots
abbrev pub marked : Range → Entries → List (Entry × Child)
marked from es = map (λ e. (e.0, record { key = e.0.1; value = e.1; above = has from e.0 })) es

abbrev pub HasNames : Chain Entry Child → Type 0
HasNames c = AllByRecursion (λ e. e.1.1.key ≡ e.0.1) (all_in c)

-- that many of a half that stand next to the cut
abbrev pub near_cut : {X : Type 0} → Half → ℕ → List X → List X
near_cut Front n es = drop (length es - n) es
near_cut Behind n es = take n es

-- the last child below an entry
abbrev pub last_child : Entries → Option (Entry × PathTree)
last_child [] = None
last_child (e ∷ []) = Some e
last_child (e ∷ d ∷ es) = last_child (d ∷ es)

abbrev pub last_below : Entry → Entries → Option (Entry × PathTree)
last_below e es = last_child (filter (λ x. not (is_le (entry_cmp e x.0))) es)

-- its key, where it lies above the lower cut
abbrev pub key_above : Range → Option (Entry × PathTree) → Option Key
key_above from None = None
key_above from (Some e) = cond (has from e.0) (Some e.0.1) None

-- so many are rows already, and the slot of the next one is known
pub record Walks (all : Linked) (rows : List Row) (next : Option ℕ) : Type 0 where
  pub done : Linked
  pub left : Linked
  pub whole : all ≡ done ++ left
  pub told : rows ≡ map row_of (children_in done)
  pub leads : (e : Entry) (p : ℕ × Child) (es : Linked) → left ≡ (e, p) ∷ es → next ≡ Some p.0

-- the slot of the first of some that end a list, and the slot in front of them
pub record Backs (all : Linked) (number : ℕ) (slot previous : Option ℕ) : Type 0 where
  pub before : Linked
  pub behind : Linked
  pub whole : all ≡ before ++ behind
  pub count : length behind ≡ number
  pub first : slot ≡ head_or (slots_of behind) None
  pub next : previous ≡ last_or None (slots_of before)
