-- Where cuts stand among the entries.
use Rattle.std.specs.Prelude.{◌≡◌, true}
use Rattle.std.specs.declared.cmp.Ordering.TheVariants.{Less}
use Rattle.std.specs.Ordering.{is_lt, is_le}
use Rattle.rt_tree.specs.PathTree.{Key}
use Rattle.rt_order.specs.declared.cut.Mark.{Mark}
use Rattle.rt_order.specs.declared.cut.Place.TheVariants.{Before, After}
use Rattle.rt_order.specs.declared.cut.Cut.{Cut}
use Rattle.rt_order.specs.declared.cut.Range.{Range}
use Rattle.rt_order.specs.Entries.{Entry, entry_cmp}
use Rattle.rt_order.specs.Cuts.{has, is_after, mark_value}

-- the entries after (v, Before k) are the entry (v, k) and those above it
abbrev pub BeforeIsNextTo : Type 0
BeforeIsNextTo = (value : Mark) (k : Key) (e : Entry)
    → is_after (record { value = value; place = Before k }) e
    ≡ is_le (entry_cmp (mark_value value, k) e)

-- the entries after (v, After k) are those above the entry (v, k)
abbrev pub AfterIsNextTo : Type 0
AfterIsNextTo = (value : Mark) (k : Key) (e : Entry)
    → is_after (record { value = value; place = After k }) e
    ≡ is_lt (entry_cmp (mark_value value, k) e)

-- what is above an entry after a cut is after it too
abbrev pub AboveStaysAfter : Type 0
AboveStaysAfter = (cut : Cut) (d e : Entry) → entry_cmp d e ≡ Less → is_after cut d ≡ true
    → is_after cut e ≡ true

-- what lies between two entries of a range is in it
abbrev pub RangesAreRuns : Type 0
RangesAreRuns = (range : Range) (d e f : Entry) → entry_cmp d e ≡ Less → entry_cmp e f ≡ Less
    → has range d ≡ true → has range f ≡ true → has range e ≡ true
