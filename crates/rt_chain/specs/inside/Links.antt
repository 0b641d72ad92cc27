-- Which slot each key has, and how the nodes in the slots are linked.
use Rattle.std.specs.Prelude.{◌≡◌, ℕ, Bool, false, cond, nat_eq, Option, Some, None, List, [], ◌∷◌}
use Rattle.std.specs.Map.{values_of}
use Rattle.std.specs.Option.{option_and_then, option_map, option_map_or}
use Rattle.std.specs.declared.cmp.Ordering.{Ordering}
use Rattle.slab.specs.Slab.{Slab, Updates, get}
use Rattle.rt_chain.specs.declared.chain.Node.{Node}
use Rattle.rt_chain.specs.Chains.{IsApart, IsOther, below, head_or, last_or}

-- ---- what a slot has
module _ {X : Type 0} (s : Slab (Node X)) (n : ℕ) where
  abbrev pub value_in : Option X
  value_in = option_map (λ x. x.value) (get s n)

  -- whether it is marked, and its value
  abbrev pub kept_in : Option (Bool × X)
  kept_in = option_map (λ x. (x.marked, x.value)) (get s n)

  abbrev pub is_marked : Bool
  is_marked = option_map_or (λ x. x.marked) (get s n) false

  abbrev pub slot_next : Option ℕ
  slot_next = option_and_then (λ x. x.next) (get s n)

  abbrev pub slot_previous : Option ℕ
  slot_previous = option_and_then (λ x. x.previous) (get s n)

-- ---- links

-- where the links of each slot lead: to the one in front of it, and to the one behind it
abbrev pub Links : Type 0
Links = ℕ → Option (Option ℕ × Option ℕ)

abbrev pub links_in : {X : Type 0} → Slab (Node X) → Links
links_in s n = option_map (λ x. (x.previous, x.next)) (get s n)

-- these slots are linked one behind another, between a slot in front of them and one behind them
abbrev pub IsRun : Links → Option ℕ → List ℕ → Option ℕ → Type 0
IsRun l before [] behind = Unit {0}
IsRun l before (n ∷ ns) behind = (l n ≡ Some (before, head_or ns behind)) × IsRun l (Some n) ns behind

-- these slots are linked in this order, none stands twice, and no other slot has a node
pub record IsLinked {X : Type 0} (s : Slab (Node X)) (slots : List ℕ) : Type 0 where
  pub linked : IsRun (links_in s) None slots None
  pub apart : IsApart slots
  pub whole : (n : ℕ) → IsOther n slots → get s n ≡ None

-- ---- a key among the others

-- the slot of the last key below one that compares to each
abbrev pub slot_below : {K : Type 0} → (K → Ordering) → List (K × ℕ) → Option ℕ
slot_below compare places = last_or None (values_of (below compare places))

-- the slot behind one, or the first
abbrev pub slot_after : {K X : Type 0} → Slab (Node X) → List (K × ℕ) → Option ℕ → Option ℕ
slot_after s places None = head_or (values_of places) None
slot_after s places (Some n) = slot_next s n

-- ---- how nodes change

-- whether a link leads to a slot
abbrev pub is_link : Option ℕ → ℕ → Bool
is_link None n = false
is_link (Some m) n = nat_eq n m

module _ {X : Type 0} where
  abbrev pub with_value : X → Node X → Node X
  with_value x node = record node { value = x }

  abbrev pub with_mark : Bool → Node X → Node X
  with_mark b node = record node { marked = b }

  abbrev pub with_next : Option ℕ → Node X → Node X
  with_next o node = record node { next = o }

  abbrev pub with_previous : Option ℕ → Node X → Node X
  with_previous o node = record node { previous = o }

  -- a node, where these two were linked to each other
  abbrev pub joined : Option ℕ → Option ℕ → ℕ → Node X → Node X
  joined p q n node = record node {
    next = cond (is_link p n) q node.next;
    previous = cond (is_link q n) p node.previous;
  }

-- a node came to a slot that was vacant, between two others
pub record Pushes {X : Type 0} (previous next : Option ℕ) (slot : ℕ) (marked : Bool) (value : X)
    (old new : Slab (Node X)) : Type 0 where
  pub vacant : get old slot ≡ None
  pub mid : Slab (Node X)
  pub low : Slab (Node X)
  pub came : Updates old mid slot
      (Some (record { value = value; marked = marked; previous = None; next = None }))
  pub linked : (m : ℕ) → get low m ≡ option_map (joined previous (Some slot) m) (get mid m)
  pub ended : (m : ℕ) → get new m ≡ option_map (joined (Some slot) next m) (get low m)
