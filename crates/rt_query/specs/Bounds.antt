-- What a bound of a query sets.
use Rattle.std.specs.Prelude.{ℕ, Bool, true, false, List, Option, Some, None, option_map, if◌then◌else◌}
use Rattle.std.specs.Option.{option_or}
use Rattle.rt_tree.specs.Leaf.{text}
use Rattle.rt_order.specs.declared.index.Index.{Index}
use Rattle.rt_order.specs.declared.index.Index.TheVariants.{Key}
use Rattle.rt_order.specs.declared.cut.Mark.{Mark}
use Rattle.rt_order.specs.declared.cut.Mark.TheVariants.{Null, Leaf}
use Rattle.rt_order.specs.declared.cut.Place.{Place}
use Rattle.rt_order.specs.declared.cut.Place.TheVariants.{Min, Before, After, Max}
use Rattle.rt_order.specs.declared.cut.Cut.{Cut}
use Rattle.rt_order.specs.declared.cut.Range.{Range}
use Rattle.rt_query.specs.declared.draft.Named.{Named}

-- a cut lies just below what a bound names, or just above it
pub data Side : Type 0 where
  Below : Side
  Above : Side

-- which cuts a bound sets: the lower one, the upper one or both
pub record Bound : Type 0 where
  pub lower : Option Side
  pub upper : Option Side

-- the five bounds: from what is named on, above it, up to it, below it, and at it
abbrev pub start_at : Bound
start_at = record { lower = Some Below; upper = None }

abbrev pub start_after : Bound
start_after = record { lower = Some Above; upper = None }

abbrev pub end_at : Bound
end_at = record { lower = None; upper = Some Above }

abbrev pub end_before : Bound
end_before = record { lower = None; upper = Some Below }

abbrev pub equal_to : Bound
equal_to = record { lower = Some Below; upper = Some Above }

-- whether the order is that of keys
abbrev pub is_by_key : Index → Bool
is_by_key Key = true
is_by_key _ = false

-- the text of a value that is one
abbrev pub text_of : Mark → Option (List ℕ)
text_of (Leaf (text bytes)) = Some bytes
text_of _ = None

-- what a bound names: a value and perhaps a key; in key order, where all values are null, the key
-- of the text that is given
abbrev pub named : Index → Mark → Option (List ℕ) → Named
named index value key =
    if is_by_key index then record { value = Null; key = text_of value }
    else record { value = value; key = key }

-- the place on that side of a key, or of all keys
abbrev pub place_of : Side → Option (List ℕ) → Place
place_of Below None = Min
place_of Below (Some k) = Before k
place_of Above None = Max
place_of Above (Some k) = After k

-- the cut on that side of what is named
abbrev pub cut_of : Named → Side → Cut
cut_of n side = record { value = n.value; place = place_of side n.key }

-- the range with the cuts that a bound sets
abbrev pub bounded : Bound → Named → Range → Range
bounded b n range = record {
  lower = option_or (option_map (cut_of n) b.lower) range.lower;
  upper = option_or (option_map (cut_of n) b.upper) range.upper;
}
