-- The calls on a draft: what they make of it, and when they are refused.
use Rattle.std.specs.Prelude.{ℕ, Bool, false, ◌&&◌, List, [], ◌∷◌, ◌==◌, Option, Some, is_some}
use Rattle.std.specs.Prelude.{is_none, unwrap_or, option_map}
use Rattle.std.specs.List.{find}
use Rattle.std.specs.Option.{option_map_or}
use Rattle.rt_tree.specs.Key.{key_fault}
use Rattle.rt_order.specs.declared.index.Index.{Index}
use Rattle.rt_order.specs.declared.cut.Mark.{Mark}
use Rattle.rt_query.specs.declared.error.QueryError.{QueryError}
use Rattle.rt_query.specs.declared.error.QueryError.TheVariants.{OrderTwice, StartTwice, EndTwice}
use Rattle.rt_query.specs.declared.error.QueryError.TheVariants.{LimitTwice, LimitZero, NeedsText}
use Rattle.rt_query.specs.declared.error.QueryError.TheVariants.{KeyNotAllowed, NoOrder}
use Rattle.rt_query.specs.declared.error.QueryError.TheVariants.{BadBoundKey}
use Rattle.rt_query.specs.declared.query.Limit.{Limit}
use Rattle.rt_query.specs.Bounds.{Bound, is_by_key, text_of, named, bounded}
use Rattle.rt_query.specs.Drafts.{Draft}

-- ---- what the calls make of a draft

-- the draft in that order
abbrev pub ordered_by : Index → Draft → Draft
ordered_by index d = record { path = d.path; index = Some index; range = d.range; limit = d.limit }

-- the draft with that limit
abbrev pub limited_to : Limit → Draft → Draft
limited_to limit d = record { path = d.path; index = d.index; range = d.range; limit = Some limit }

-- the order that is named; that of keys, where none is
abbrev pub order_of : Draft → Index
order_of d = unwrap_or d.index Index.Key

-- the draft with a bound at that value and key
abbrev pub bounded_by : Bound → Mark → Option (List ℕ) → Draft → Draft
bounded_by b value key d =
    record {
      path = d.path;
      index = d.index;
      range = bounded b (named (order_of d) value key) d.range;
      limit = d.limit;
    }

-- ---- when they are refused

-- the first refusal whose condition holds
abbrev pub first_refusal : List (Bool × QueryError) → Option QueryError
first_refusal conditions = option_map (λ c. c.1) (find (λ c. c.0) conditions)

-- an order is named once
abbrev pub order_refusal : Draft → Option QueryError
order_refusal d = first_refusal ((is_some d.index, OrderTwice) ∷ [])

-- a limit is given once, and not 0
abbrev pub limit_refusal : ℕ → Draft → Option QueryError
limit_refusal n d = first_refusal ((is_some d.limit, LimitTwice) ∷ (n == 0, LimitZero) ∷ [])

-- a bound wants a text alone in key order, and each key must be one
abbrev pub naming_conditions : Index → Mark → Option (List ℕ) → List (Bool × QueryError)
naming_conditions index value key =
    (is_by_key index && is_none (text_of value), NeedsText)
    ∷ (is_by_key index && is_some key, KeyNotAllowed)
    ∷ (option_map_or (λ k. is_some (key_fault k)) (named index value key).key false, BadBoundKey)
    ∷ []

-- a bound comes after the order, and each cut is set once
abbrev pub bound_refusal : Bound → Mark → Option (List ℕ) → Draft → Option QueryError
bound_refusal b value key d = first_refusal (
    (is_none d.index, NoOrder)
    ∷ (is_some b.lower && is_some d.range.lower, StartTwice)
    ∷ (is_some b.upper && is_some d.range.upper, EndTwice)
    ∷ naming_conditions (order_of d) value key)
