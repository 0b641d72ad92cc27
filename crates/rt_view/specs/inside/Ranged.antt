-- All children that are known, in two halves, and of these the ones in a range.
use Rattle.std.specs.Prelude.{◌≡◌, ◌-◌, ◌++◌, ◌&&◌, ℕ, List, Option, true, false, not, None, Some, length, min}
use Rattle.std.specs.List.{AllByRecursion, filter}
use Rattle.rt_tree.specs.PathTree.{PathTree}
use Rattle.rt_order.specs.declared.cut.Range.{Range}
use Rattle.rt_order.specs.Entries.{Entry}
use Rattle.rt_order.specs.Cuts.{has}
use Rattle.rt_query.specs.declared.query.Limit.{Limit}
use Rattle.rt_query.specs.declared.query.Limit.TheVariants.{First, Last}

-- children by their entries
abbrev pub Entries : Type 0
Entries = List (Entry × PathTree)

-- the children in front of a cut, and those behind it
abbrev pub Halved : Type 0
Halved = Entries × Entries

-- the children in a range, and the others
abbrev pub inside : Range → Entries → Entries
inside r es = filter (λ e. has r e.0) es

abbrev pub outside : Range → Entries → Entries
outside r es = filter (λ e. not (has r e.0)) es

-- all children in two halves, and a range
pub record Spread : Type 0 where
  pub range : Range
  pub halves : Halved

-- and with a limit, which shows of those in the range the first or the last
pub record OrderedChildren : Type 0 where
  pub limit : Option Limit
  pub children : Spread

-- in each half the children in the range
abbrev pub inner : Spread → Halved
inner s = (inside s.range s.halves.0, inside s.range s.halves.1)

abbrev pub all_known : Spread → Entries
all_known s = s.halves.0 ++ s.halves.1

-- the range from the lower cut of one to the upper cut of another one
abbrev pub between : Range → Range → Range
between from to = record { lower = from.lower; upper = to.upper }

-- how many of so many children stand in front of the cut of a limit
abbrev pub cut_at : Option Limit → ℕ → ℕ
cut_at None n = n
cut_at (Some (First k)) n = min k n
cut_at (Some (Last k)) n = n - min k n

-- None that lies above the range stands in front of the cut, and none that lies below it stands behind.
-- Of those beside the range is known how many stand in front, and how many behind.
pub record IsSpread (from to : Range) (halves : Halved) (low high : ℕ) : Type 0 where
  pub from_only : from.upper ≡ None
  pub to_only : to.lower ≡ None
  pub front : AllByRecursion (λ e. (has from e.0 && not (has to e.0)) ≡ false) halves.0
  pub behind : AllByRecursion (λ e. has from e.0 ≡ true) halves.1
  pub lows : low ≡ length (outside (between from to) halves.0)
  pub highs : high ≡ length (outside (between from to) halves.1)
