-- What a bound keeps of a range.
use Rattle.std.specs.Prelude.{◌≡◌, ℕ, ◌&&◌, List, Option, None}
use Rattle.std.specs.declared.cmp.Ordering.{Ordering}
use Rattle.std.specs.Option.{option_map_or}
use Rattle.std.specs.Ordering.{is_lt, is_le, is_eq, is_ge, is_gt}
use Rattle.rt_tree.specs.Leaf.{text}
use Rattle.rt_tree.specs.PathTree as tree
use Rattle.rt_order.specs.declared.index.Index.TheVariants as index
use Rattle.rt_order.specs.declared.cut.Mark.TheVariants.{Leaf}
use Rattle.rt_order.specs.declared.cut.Range.{Range}
use Rattle.rt_order.specs.Cuts.{has, mark_value}
use Rattle.rt_order.specs.Entries.{Entry, entry, entry_cmp}
use Rattle.rt_order.specs.KeyOrder.{key_cmp}
use Rattle.rt_order.specs.Values.{value_cmp}
use Rattle.rt_query.specs.declared.draft.Named.{Named}
use Rattle.rt_query.specs.Bounds.{named, bounded, start_at, start_after, end_at, end_before, equal_to}
use Rattle.rt_tree.specs.PathTree.{PathTree}

-- what a bound names, compared to an entry: by value, and by key where one is named
abbrev pub compared : Named → Entry → Ordering
compared n e =
    option_map_or (λ k. entry_cmp (mark_value n.value, k) e) n.key (value_cmp (mark_value n.value) e.0)

-- startAt keeps of a range the entries from what it names on, startAfter those above it
abbrev pub StartsAt : Type 0
StartsAt =
    (n : Named) (r : Range) (e : Entry) → r.lower ≡ None
    → has (bounded start_at n r) e ≡ (has r e && is_le (compared n e))

abbrev pub StartsAfter : Type 0
StartsAfter =
    (n : Named) (r : Range) (e : Entry) → r.lower ≡ None
    → has (bounded start_after n r) e ≡ (has r e && is_lt (compared n e))

-- endAt keeps the entries up to what it names, endBefore those below it
abbrev pub EndsAt : Type 0
EndsAt =
    (n : Named) (r : Range) (e : Entry) → r.upper ≡ None
    → has (bounded end_at n r) e ≡ (has r e && is_ge (compared n e))

abbrev pub EndsBefore : Type 0
EndsBefore =
    (n : Named) (r : Range) (e : Entry) → r.upper ≡ None
    → has (bounded end_before n r) e ≡ (has r e && is_gt (compared n e))

-- equalTo keeps the entries at what it names
abbrev pub Equals : Type 0
Equals =
    (n : Named) (r : Range) (e : Entry) → r.lower ≡ None → r.upper ≡ None
    → has (bounded equal_to n r) e ≡ is_eq (compared n e)

-- in key order a bound is compared to the children's keys
abbrev pub ComparesKeys : Type 0
ComparesKeys =
    (bytes k : List ℕ) (t : tree.PathTree) (key : Option (List ℕ))
    → compared (named index.Key (Leaf (text bytes)) key) (entry index.Key (k, t)) ≡ key_cmp bytes k
