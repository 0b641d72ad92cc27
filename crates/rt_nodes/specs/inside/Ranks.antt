-- The children of each node, as the ranks have them.
use Rattle.std.specs.Prelude.{◌≡◌, ◌+◌, ◌&&◌, ℕ, Bool, true, false, Option, Some, None, nat_eq}
use Rattle.slab.specs.Slab.{Slab, get}
use Rattle.rt_nodes.specs.Forest.{one_if}
use Rattle.rt_nodes.specs.inside.Often.{in_row, in_nth}
use Rattle.rt_nodes.specs.declared.nodes.Slot.{Slot}
use Rattle.rt_nodes.specs.declared.children.Ranks.{Ranks}

-- how often a child stands in the row of the root or of a node
abbrev pub held : ℕ → Ranks → Option ℕ → ℕ
held m r None = in_row m r.top
held m r (Some n) = in_nth m r.below.items n

-- whether two links are the same
abbrev pub same_link : Option ℕ → Option ℕ → Bool
same_link None None = true
same_link None (Some n) = false
same_link (Some m) None = false
same_link (Some m) (Some n) = nat_eq m n

-- whether a node is there and a child of this parent
abbrev pub is_child : {X : Type 0} → Option ℕ → Option (Slot X) → Bool
is_child p None = false
is_child p (Some slot) = same_link p slot.parent

-- a child more stands in the row of this parent
abbrev pub Added : Ranks → Ranks → Option ℕ → ℕ → Type 0
Added old new parent child = (p : Option ℕ) (m : ℕ) → held m new p
    ≡ held m old p + one_if (same_link p parent && nat_eq m child)

-- each row has the same children
abbrev pub IsAlike : Ranks → Ranks → Type 0
IsAlike old new = (p : Option ℕ) (m : ℕ) → held m new p ≡ held m old p

-- each node of the slab stands once in the row of its parent, and nothing else stands in a row
abbrev pub IsRanked : {X : Type 0} → Slab (Slot X) → Ranks → Type 0
IsRanked s r = (p : Option ℕ) (m : ℕ) → held m r p ≡ one_if (is_child p (get s m))
