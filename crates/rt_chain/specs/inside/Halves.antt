-- The halves of a chain: its marked slots stand in front of the others.
use Rattle.std.specs.Prelude.{◌≡◌, ℕ, Bool, true, false, not, if◌then◌else◌, Option, Some, None, List, [], ◌∷◌, length, map}
use Rattle.std.specs.List.{AllByRecursion}
use Rattle.std.specs.List.Sorted.{IsStrictlySortedBy}
use Rattle.std.specs.Map.{keys_of}
use Rattle.std.specs.Option.{option_map_or}
use Rattle.std.specs.declared.cmp.Ordering.{Ordering}
use Rattle.slab.specs.Slab.{Slab}
use Rattle.rt_chain.specs.declared.chain.Half.{Half}
use Rattle.rt_chain.specs.declared.chain.Half.TheVariants.{Front, Behind}
use Rattle.rt_chain.specs.declared.chain.Node.{Node}
use Rattle.rt_chain.specs.Chains.{Chain, all_in, head_or, last_or, slots_of}
use Rattle.rt_chain.specs.inside.Links.{IsLinked, kept_in}

abbrev pub is_same : Bool → Bool → Bool
is_same true m = m
is_same false m = not m

-- what each slot has: whether it is marked, and its value
abbrev pub Kept : Type 0 → Type 0
Kept X = ℕ → Option (Bool × X)

module _ {K X : Type 0} where
  -- a place with its value, where its mark is this one
  abbrev pub taken : Bool → K × ℕ → Option (Bool × X) → List (K × (ℕ × X))
      → List (K × (ℕ × X))
  taken b e None rest = rest
  taken b e (Some p) rest = if is_same b p.0 then (e.0, (e.1, p.1)) ∷ rest else rest

  -- the places that have this mark, with their values
  abbrev pub picked : Bool → Kept X → List (K × ℕ) → List (K × (ℕ × X))
  picked b kept [] = []
  picked b kept (e ∷ es) = taken b e (kept e.1) (picked b kept es)

  abbrev pub chain_of : List (K × ℕ) → Slab (Node X) → Chain K X
  chain_of places s = record {
    front = picked true (kept_in s) places;
    behind = picked false (kept_in s) places;
  }

  -- the entries without their values
  abbrev pub places_in : List (K × (ℕ × X)) → List (K × ℕ)
  places_in es = map (λ e. (e.0, e.1.0)) es

  -- the slots of these entries have this mark, and their values
  abbrev pub AreKept : Bool → Kept X → List (K × (ℕ × X)) → Type 0
  AreKept b kept es = AllByRecursion (λ e. kept e.1.0 ≡ Some (b, e.1.1)) es

  -- the keys of these entries rise, the map leads from them to the slots, and these are linked
  pub record AreListed (cmp : K → K → Ordering) (places : List (K × ℕ)) (s : Slab (Node X))
      (es : List (K × (ℕ × X))) : Type 0 where
    pub rises : IsStrictlySortedBy cmp (keys_of es)
    pub places_are : places ≡ places_in es
    pub linked : IsLinked s (slots_of es)

  -- the marked slots stand in front of the others; the last of the ones and the first of the others
  -- are known, and how many of the ones there are
  pub record IsCut (cmp : K → K → Ordering) (places : List (K × ℕ)) (s : Slab (Node X))
      (last first : Option ℕ) (count : ℕ) (c : Chain K X) : Type 0 where
    pub all : AreListed cmp places s (all_in c)
    pub marked : AreKept true (kept_in s) c.front
    pub unmarked : AreKept false (kept_in s) c.behind
    pub last_is : last ≡ last_or None (slots_of c.front)
    pub first_is : first ≡ head_or (slots_of c.behind) None
    pub count_is : count ≡ length c.front

-- ---- where a slot stands

-- whether a slot is there and marked, or there and not
abbrev pub is_front : (ℕ → Bool) → Option ℕ → Bool
is_front marked o = option_map_or marked o false

abbrev pub is_behind : (ℕ → Bool) → Option ℕ → Bool
is_behind marked o = option_map_or (λ n. not (marked n)) o false

abbrev pub half_by : Bool → Half
half_by true = Front
half_by false = Behind
