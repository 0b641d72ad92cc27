-- The linked nodes of a row and below it, as they stand in a slab.
use Rattle.std.specs.Prelude.{◌≡◌, ◌≤◌, ℕ, suc, ◌+◌, Option, Some, None, nat_eq, zero}
use Rattle.std.specs.Prelude.{Bool, true, false}
use Rattle.std.specs.Option.{option_map_or}
use Rattle.std.specs.declared.cmp.Ordering.TheVariants.{Less}
use Rattle.slab.specs.Slab.{Slab, get, slab_len}
use Rattle.rt_tree.specs.PathTree.{Key}
use Rattle.rt_order.specs.KeyOrder.{key_cmp}
use Rattle.rt_nodes.specs.declared.nodes.Slot.{Slot}

-- a row of nodes: the first one, by its number, with its key and what it carries, the row of its
-- children, and the row behind it
pub data Forest (X : Type 0) : Type 0 where
  bare : Forest X
  node : ℕ → Key → X → Forest X → Forest X → Forest X

abbrev pub one_if : Bool → ℕ
one_if true = 1
one_if false = 0

module _ {X : Type 0} where
  -- the number of the first node
  abbrev pub first : Forest X → Option ℕ
  first bare = None
  first (node n key value below behind) = Some n

  -- how many nodes there are
  abbrev pub size : Forest X → ℕ
  size bare = 0
  size (node n key value below behind) = suc (size below + size behind)

  -- how often a number stands in it
  abbrev pub times : ℕ → Forest X → ℕ
  times k bare = 0
  times k (node n key value below behind) = one_if (nat_eq k n) + (times k below + times k behind)

  -- every key of the row stands behind this one
  abbrev pub AllAfter : Key → Forest X → Type 0
  AllAfter k bare = Unit {0}
  AllAfter k (node n key value below behind) = (key_cmp k key ≡ Less) × AllAfter k behind

  -- keys strictly rise in each row
  abbrev pub Sound : Forest X → Type 0
  Sound bare = Unit {0}
  Sound (node n key value below behind) = AllAfter key behind × Sound below × Sound behind

  -- the slab has these nodes, under this parent and behind this sibling, and their links agree both ways
  abbrev pub Links : Slab (Slot X) → Option ℕ → Option ℕ → Forest X → Type 0
  Links s parent previous bare = Unit {0}
  Links s parent previous (node n key value below behind) =
      (get s n ≡ Some (record {
        key = key;
        parent = parent;
        first_child = first below;
        previous =
            previous;
        next = first behind;
        value = value;
      }))
      × Links s (Some n) None below × Links s parent (Some n) behind

  -- what is reached from a node, by a bound on the steps
  abbrev pub reached : ℕ → Slab (Slot X) → Option ℕ → Forest X
  reached zero s o = bare
  reached (suc m) s None = bare
  reached (suc m) s (Some n) =
      option_map_or (λ slot. node n slot.key slot.value (reached m s slot.first_child)
      (reached m s slot.next)) (get s n) bare

  -- what is reached from a node
  abbrev pub row_at : Slab (Slot X) → Option ℕ → Forest X
  row_at s o = reached (slab_len s) s o

  -- the row from a node on, as it is linked
  pub record IsRow (s : Slab (Slot X)) (o parent previous : Option ℕ) (f : Forest X) : Type 0 where
    pub links : Links s parent previous f
    pub sound : Sound f
    pub starts : first f ≡ o
    pub fits : size f ≤ slab_len s
