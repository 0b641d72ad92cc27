-- When a step is refused, and when it is stale: each kind says its part (steps/), and here is the order.
use Rattle.std.specs.Prelude.{◌+◌, Bool, ◌&&◌, not, List, [], ◌∷◌, length, nat_lt, Option, is_none}
use Rattle.std.specs.List.{find}
use Rattle.std.specs.Option.{option_map}
use Rattle.rt_world.specs.declared.error.CoreError.{CoreError}
use Rattle.rt_world.specs.declared.error.CoreError.TheVariants.{UnknownListener, TooManyListeners}
use Rattle.rt_world.specs.declared.error.CoreError.TheVariants.{TooManyRequests, Overlap}
use Rattle.rt_world.specs.declared.error.CoreError.TheVariants.{EmptyUpdate, TooDeep, BadPush}
use Rattle.rt_world.specs.declared.error.CoreError.TheVariants.{AlreadyConnected, NotConnected}
use Rattle.rt_world.specs.declared.step.Step.{Step}
use Rattle.rt_world.specs.World.{World}
use Rattle.rt_world.specs.After.{kind, started_by}

-- whether the step needs a tag above the last number
abbrev pub needs_tag : World → Step → Bool
needs_tag w s = nat_lt (w.limits.last_number + 1) (w.next_tag + length (started_by w s))

-- whether it names a listener that is none of its seat's
abbrev pub is_unknown_listener : World → Step → Bool
is_unknown_listener w s = (kind s).is_unknown w

-- each refusal with its condition, in the order in which they are looked at
abbrev pub conditions : World → Step → List (Bool × CoreError)
conditions w s =
    (is_unknown_listener w s, UnknownListener)
    ∷ ((kind s).has_too_many w (needs_tag w s), TooManyListeners)
    ∷ ((kind s).has_too_many_requests w, TooManyRequests)
    ∷ ((kind s).has_overlap, Overlap)
    ∷ ((kind s).is_empty, EmptyUpdate)
    ∷ ((kind s).is_too_deep, TooDeep)
    ∷ ((kind s).is_bad_push w, BadPush)
    ∷ ((kind s).opens && w.is_connected, AlreadyConnected)
    ∷ ((kind s).needs_connection && not w.is_connected, NotConnected)
    ∷ ((kind s).has_too_many_last (needs_tag w s), TooManyListeners)
    ∷ []

-- the first refusal whose condition holds
abbrev pub refusal : World → Step → Option CoreError
refusal w s = option_map (λ c. c.1) (find (λ c. c.0) (conditions w s))

-- whether the step comes too late
abbrev pub is_stale : World → Step → Bool
is_stale w s = (kind s).is_stale w

-- whether the step is neither refused nor stale
abbrev pub is_done : World → Step → Bool
is_done w s = is_none (refusal w s) && not (is_stale w s)
