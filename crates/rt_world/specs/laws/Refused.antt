-- What a step answers, by kind: which refusals it can have, when it is stale, when a tag is lacking.
use Rattle.std.specs.Prelude.{◌≡◌, ℕ, Bool, true, false, ◌&&◌, not, List, [], ◌∷◌, ◌==◌}
use Rattle.std.specs.Prelude.{Option, Some, None, Ok, Err, is_some}
use Rattle.std.specs.List.{filter, find, list_any}
use Rattle.std.specs.Option.{option_map}
use Rattle.rt_query.specs.Queries.{Query}
use Rattle.rt_query.specs.Supply.{form}
use Rattle.rt_cover.specs.State.{with_listener, without_listeners, left_after, lacks_tag}
use Rattle.rt_world.specs.declared.error.CoreError.{CoreError}
use Rattle.rt_world.specs.declared.step.Step.{Step}
use Rattle.rt_world.specs.World.{Reason, World, registered, listen_of}
use Rattle.rt_world.specs.After.{kind}
use Rattle.rt_world.specs.Messages.{next}
use Rattle.rt_world.specs.Codes.{code_of}
use Rattle.rt_world.specs.Refusals.{conditions, needs_tag, refusal, is_stale}
use Rattle.rt_world.specs.Answers.{step, stale_report, done_report}
use Rattle.rt_world.specs.Covering.{cover_in}
use Rattle.rt_world.specs.steps.Closing.{numbers_of}
use Rattle.rt_world.specs.Sound.{IsSound}

-- ---- answers

-- a refused step leaves the world as it was
abbrev pub RefusedIsNothing : Type 0
RefusedIsNothing =
    (w : World) (s : Step) (e : CoreError) → refusal w s ≡ Some e → step w s ≡ (w, Err e)

-- so does one that is stale
abbrev pub StaleIsNothing : Type 0
StaleIsNothing =
    (w : World) (s : Step) → refusal w s ≡ None → is_stale w s ≡ true
    → step w s ≡ (w, Ok stale_report)

-- any other is made
abbrev pub OtherIsMade : Type 0
OtherIsMade =
    (w : World) (s : Step) → refusal w s ≡ None → is_stale w s ≡ false
    → step w s ≡ (next w s, Ok (done_report w s))

-- ---- refusals

-- the first refusal whose condition holds
abbrev pub first_of : List (Bool × CoreError) → Option CoreError
first_of conditions = option_map (λ c. c.1) (find (λ c. c.0) conditions)

-- whether the kind of step can have that refusal
abbrev pub can_have : Step → CoreError → Bool
can_have s e = list_any (λ f. code_of f == code_of e) (kind s).refusals

-- the refusals that the step can have, each with its condition, in order
abbrev pub conditions_for : World → Step → List (Bool × CoreError)
conditions_for w s = filter (λ c. can_have s c.1) (conditions w s)

-- no other condition ever holds of it
abbrev pub RefusalIsOfKind : Type 0
RefusalIsOfKind = (w : World) (s : Step) → refusal w s ≡ first_of (conditions_for w s)

-- ---- stale steps

-- what the server sends comes over a connection, and ends none
abbrev pub comes_from_server : Step → Bool
comes_from_server s = (kind s).needs_connection && not (kind s).closes

-- a step that the server did not send is never stale
abbrev pub OwnIsNotStale : Type 0
OwnIsNotStale = (w : World) (s : Step) → comes_from_server s ≡ false → is_stale w s ≡ false

-- a settlement is, where no unsettled request has the number
abbrev pub AcceptedIsStale : Type 0
AcceptedIsStale =
    (w : World) (id : ℕ)
    → is_stale w (Step.Accepted id) ≡ not (list_any (λ r. r.id == id) w.requests)

abbrev pub RefusedIsStale : Type 0
RefusedIsStale =
    (w : World) (id : ℕ) (why : Reason)
    → is_stale w (Step.Refused id why) ≡ not (list_any (λ r. r.id == id) w.requests)

-- a revocation is, where the tag is not kept
abbrev pub RevokedIsStale : Type 0
RevokedIsStale =
    (w : World) (tag : ℕ) (why : Reason)
    → is_stale w (Step.Revoked tag why) ≡ not (is_some (listen_of w tag))

-- ---- tags

-- a step lacks a tag where the change of the cover does
abbrev pub ListenNeedsTag : Type 0
ListenNeedsTag =
    (w : World) (seat : ℕ) (query : Query) → IsSound w
    → needs_tag w (Step.Listen seat query)
    ≡ lacks_tag (cover_in w) (with_listener (registered w.listeners) w.next_listener (form query))

abbrev pub UnlistenNeedsTag : Type 0
UnlistenNeedsTag =
    (w : World) (seat listener : ℕ)
    → needs_tag w (Step.Unlisten seat listener)
    ≡ lacks_tag (cover_in w) (without_listeners (registered w.listeners) (listener ∷ []))

abbrev pub CloseSeatNeedsTag : Type 0
CloseSeatNeedsTag =
    (w : World) (seat : ℕ) → IsSound w
    → needs_tag w (Step.CloseSeat seat)
    ≡ lacks_tag (cover_in w) (without_listeners (registered w.listeners) (numbers_of w seat))

abbrev pub RevokedNeedsTag : Type 0
RevokedNeedsTag =
    (w : World) (tag : ℕ) (why : Reason)
    → needs_tag w (Step.Revoked tag why) ≡ lacks_tag (cover_in w) (left_after (cover_in w) tag)
