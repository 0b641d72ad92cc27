-- A query that is made of its parts by the calls of a draft.
use Rattle.std.specs.Prelude.{◌≡◌, Bool, true, false, ◌≤◌, Option, Some, None}
use Rattle.rt_order.specs.declared.index.Index.{Index}
use Rattle.rt_order.specs.declared.cut.Cut.{Cut}
use Rattle.rt_query.specs.declared.query.Limit.{Limit}
use Rattle.rt_query.specs.declared.query.Limit.TheVariants.{First, Last}
use Rattle.rt_query.specs.Bounds.{Side, Below, Above, named}
use Rattle.rt_query.specs.Bounds as bounds
use Rattle.rt_query.specs.Calls.{first_refusal, naming_conditions}
use Rattle.rt_query.specs.Drafts.{Draft}
use Rattle.rt_wire.specs.QueryFields.{may_cut}
use Rattle.rt_wire.specs.declared.draft.Bound.{Bound}

-- which side of what is named
abbrev pub side : Bool → Side
side true = Above
side false = Below

-- the cut that a bound sets
abbrev pub cut_named : Index → Bound → Cut
cut_named index b = bounds.cut_of (named index b.value b.key) (side b.is_above)

-- the words of a bound that no call refuses
abbrev pub IsNamed : Index → Bound → Type 0
IsNamed index b = first_refusal (naming_conditions index b.value b.key) ≡ None

abbrev pub AreNamed : Index → Option Bound → Type 0
AreNamed index None = Unit {0}
AreNamed index (Some b) = IsNamed index b

-- a cut that children in the order may have
abbrev pub MayCut : Index → Option Cut → Type 0
MayCut index None = Unit {0}
MayCut index (Some cut) = may_cut index cut ≡ true

-- a limit that is not 0
abbrev pub Counts : Option Limit → Type 0
Counts None = Unit {0}
Counts (Some (First n)) = 1 ≤ n
Counts (Some (Last n)) = 1 ≤ n

-- the draft with these
abbrev pub with_lower : Option Cut → Draft → Draft
with_lower cut d = record {
  path = d.path;
  index = d.index;
  range =
      record { lower = cut; upper = d.range.upper };
  limit = d.limit;
}

abbrev pub with_upper : Option Cut → Draft → Draft
with_upper cut d = record {
  path = d.path;
  index = d.index;
  range =
      record { lower = d.range.lower; upper = cut };
  limit = d.limit;
}

abbrev pub with_limit : Option Limit → Draft → Draft
with_limit limit d = record { path = d.path; index = d.index; range = d.range; limit = limit }
