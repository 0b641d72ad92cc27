-- How the nodes change.
use Rattle.std.specs.Prelude.{◌≡◌, ◌<◌, ◌≤◌, ◌⊎◌, ℕ, ◌+◌, Bool, false, cond, nat_eq, Option, Some}
use Rattle.std.specs.Prelude.{None}
use Rattle.std.specs.FinMap.Entries.{by_order}
use Rattle.rt_tree.specs.PathTree.{Key}
use Rattle.rt_order.specs.KeyOrder.{key_cmp}
use Rattle.slab.specs.Slab.{Slab, get, slab_len}
use Rattle.rt_nodes.specs.Forest.{Forest, bare, node, size, times, IsRow, row_at}
use Rattle.rt_nodes.specs.declared.nodes.Slot.{Slot}

-- whether a link leads to a node
abbrev pub is_link : Option ℕ → ℕ → Bool
is_link None n = false
is_link (Some m) n = nat_eq n m

module _ {X : Type 0} where
  abbrev pub with_next : Option ℕ → Slot X → Slot X
  with_next o slot = record slot { next = o }

  abbrev pub with_previous : Option ℕ → Slot X → Slot X
  with_previous o slot = record slot { previous = o }

  abbrev pub with_content : X → Option ℕ → Slot X → Slot X
  with_content value o slot = record slot { first_child = o; value = value }

  abbrev pub with_value : X → Slot X → Slot X
  with_value value slot = record slot { value = value }

  -- every node is as it was
  pub record Same (old new : Slab (Slot X)) : Type 0 where
    pub kept : (n : ℕ) → get new n ≡ get old n
    pub len : slab_len new ≡ slab_len old

  -- these nodes are gone, and the others are as they were
  pub record Felled (old new : Slab (Slot X)) (f : Forest X) : Type 0 where
    pub gone : (n : ℕ) → 0 < times n f → get new n ≡ None
    pub kept : (n : ℕ) → times n f ≡ 0 → get new n ≡ get old n
    pub len : slab_len new + size f ≡ slab_len old

  -- a node, where these two siblings were linked to each other
  abbrev pub joined : Option ℕ → Option ℕ → ℕ → Slot X → Slot X
  joined p q n slot = record slot {
    next = cond (is_link p n) q slot.next;
    previous =
        cond (is_link q n) p slot.previous;
  }

  -- a node that was put between two siblings
  abbrev pub linked_in : Option ℕ → ℕ → Option ℕ → ℕ → Slot X → Slot X
  linked_in p k q n slot = joined (Some k) q n (joined p (Some k) n slot)

  -- one of the siblings of the row
  abbrev pub InRow : ℕ → Forest X → Type 0
  InRow k bare = ⊥
  InRow k (node n key value below behind) = (k ≡ n) ⊎ InRow k behind

  -- the row without one of its siblings
  abbrev pub without : ℕ → Forest X → Forest X
  without k bare = bare
  without k (node n key value below behind) =
      cond (nat_eq k n) behind (node n key value below (without k behind))

  -- what stands below one of its siblings
  abbrev pub below_of : ℕ → Forest X → Forest X
  below_of k bare = bare
  below_of k (node n key value below behind) = cond (nat_eq k n) below (below_of k behind)

  -- the row with another value, or other children, at one of its siblings
  abbrev pub with_below : ℕ → X → Forest X → Forest X → Forest X
  with_below k l b bare = bare
  with_below k l b (node n key value below behind) = cond (nat_eq k n) (node n key l b behind)
      (node n key value below (with_below k l b behind))

  -- the row with one node more, at the place of its key, which stands nowhere in the row
  abbrev pub planted : ℕ → Key → X → Forest X → Forest X → Forest X
  planted n k l b bare = node n k l b bare
  planted n k l b (node m key value below behind) =
      by_order (key_cmp k key) (node n k l b (node m key value below behind))
      (node m key value below behind) (node m key value below (planted n k l b behind))

  -- a whole row starts at the node
  abbrev pub IsHead : Slab (Slot X) → Option ℕ → Type 0
  IsHead s o = (parent : Option ℕ) × IsRow s o parent None (row_at s o)

  -- each node of the slab under this parent stands in this row, and each under a node of the slab in
  -- the row of its children
  pub record Told (s : Slab (Slot X)) (o parent : Option ℕ) : Type 0 where
    pub here : (n : ℕ) (slot : Slot X) → get s n ≡ Some slot → slot.parent ≡ parent → InRow n (row_at s o)
    pub below : (m n : ℕ) (above slot : Slot X) → get s m ≡ Some above → get s n ≡ Some slot
        → slot.parent ≡ Some m → InRow n (row_at s above.first_child)

  -- where the nodes of f became those of g: all others are as they were, and what is new was vacant
  pub record Changed (old new : Slab (Slot X)) (f g : Forest X) : Type 0 where
    pub kept : (n : ℕ) → times n f ≡ 0 → times n g ≡ 0 → get new n ≡ get old n
    pub gone : (n : ℕ) → 0 < times n f → times n g ≡ 0 → get new n ≡ None
    pub fresh : (n : ℕ) → 0 < times n g → times n f ≡ 0 → get old n ≡ None
    pub once : (n : ℕ) → times n g ≤ 1
    pub len : slab_len new + size f ≡ slab_len old + size g

  -- nodes that were vacant became a row, which nothing else leads to
  pub record Grown (old new : Slab (Slot X)) (o parent : Option ℕ) : Type 0 where
    pub row : IsRow new o parent None (row_at new o)
    pub changed : Changed old new bare (row_at new o)
