-- What waits in a client's locked value.
use Rattle.std.proofs.Common.{◌≡◌, List, [], ◌∷◌, ◌++◌, drop, Option, Some, None, refl, sym, ap, ◌∙◌}
use Rattle.std.specs.Option.{option_map, option_map_or}
use Rattle.rt_wire.specs.declared.client.ClientMessage.{ClientMessage}
use Rattle.rt_world.specs.World.{World}
use Rattle.rt_sync.specs.Core.{first_message}
use Rattle.rt_client.specs.Calls.{Locked}
use Rattle.rt_client.specs.Settling.{TakesMessage}
use Rattle.rt_client.specs.Shared.{Held}
use Rattle.rt_connect.specs.inside.Waiting.{nothing_waits, waiting_in, waiting_of, without_waiting}

abbrev pub listed : Option ClientMessage → List ClientMessage
listed None = []
listed (Some m) = m ∷ []

first_and_rest : (ms : List ClientMessage) → ms ≡ listed (first_message ms) ++ drop 1 ms
first_and_rest [] = refl
first_and_rest (m ∷ ms) = refl

-- the first message is taken out
pub taken : (old new : Locked) (m : Option ClientMessage) → TakesMessage old m new
    → waiting_of old ≡ listed m ++ waiting_of new
taken old new m t =
    let w : World = t.takes.world in
    let was : waiting_of old ≡ w.outgoing =
    ap (λ h. option_map_or waiting_in h []) t.held
    ∙ ap (λ c. option_map_or (λ (w : World). w.outgoing) c []) t.takes.core in
    let is : waiting_of new ≡ drop 1 w.outgoing =
    ap waiting_of t.locked ∙ ap waiting_in t.takes.left in
    was ∙ first_and_rest w.outgoing
    ∙ ap (λ f. listed f ++ drop 1 w.outgoing) (sym t.takes.first)
    ∙ ap (λ ms. listed m ++ ms) (sym is)

-- what was to be sent is all that changes
emptied_old : (old : Locked) (before : Held) (world : World) → old.held ≡ Some before → before.core ≡ Some world
    → without_waiting old
    ≡ record old { held = Some (record before { core = Some (record world { outgoing = [] }) }) }
emptied_old old before world held core =
    ap (λ h. record old { held = option_map nothing_waits h }) held
    ∙ ap (λ c. record old {
      held = Some (record before { core = option_map (λ (w : World). record w { outgoing = [] }) c });
    }) core

pub taken_rest : (old new : Locked) (m : Option ClientMessage) → TakesMessage old m new
    → without_waiting new ≡ without_waiting old
taken_rest old new m t =
    ap without_waiting t.locked
    ∙ ap (λ (a : Held). record old { held = Some (nothing_waits a) }) t.takes.left
    ∙ sym (emptied_old old t.before t.takes.world t.held t.takes.core)

no_first : (ms : List ClientMessage) → None ≡ first_message ms → drop 1 ms ≡ []
no_first [] e = refl
no_first (m ∷ ms) e = cc

-- where there is no message nothing is left
pub none_taken : (old new : Locked) → TakesMessage old None new → new ≡ without_waiting old
none_taken old new t =
    t.locked
    ∙ ap (λ (a : Held). record old { held = Some a }) t.takes.left
    ∙ ap (λ ms. record old {
      held = Some (record (t.before) { core = Some (record (t.takes.world) { outgoing = ms }) });
    }) (no_first t.takes.world.outgoing t.takes.first)
    ∙ sym (emptied_old old t.before t.takes.world t.held t.takes.core)

-- a client that has failed has none
pub failed_rest : (old : Locked) → old.held ≡ None → without_waiting old ≡ old
failed_rest old held =
    ap (λ h. record old { held = option_map nothing_waits h }) held
    ∙ ap (λ h. record old { held = h }) (sym held)

-- so messages are taken out one after another
pub ruleset taking = (taken, taken_rest, none_taken, failed_rest)
