-- What a wait makes of a seat, and what one for a message finds.
use Rattle.std.proofs.Common.{◌≡◌, Bool, true, false, [], take, not, refl, sym, ap, ◌∙◌, append-nil, Option, Some, None, Result, Ok, Err, IfErr}
use mathlib.Core.Bool.{true≢false}
use Rattle.rt_wire.specs.declared.client.ClientMessage.{ClientMessage}
use Rattle.rt_client.specs.declared.error.ClientError.{ClientError}
use Rattle.rt_client.specs.declared.error.ClientError.TheVariants.{Failed}
use Rattle.rt_client.specs.Lanes.{due}
use Rattle.rt_client.specs.Calls.{Locked, Seated}
use Rattle.rt_client.specs.Waiting.{has_none, IsSettled, Awaits, FindsMessage}

-- its ring holds something
pub already : (had : Seated) → true ≡ not (has_none had.ring.items) → Awaits had true had
already had e = record {
  came = [];
  seat = λ i. record had { ring = record (had.ring) { items = sym (append-nil had.ring.items) i } };
  told = e;
  held = λ some. refl;
  settled = λ none. absurd (true≢false (e ∙ ap not none));
}

-- it holds nothing, and is settled
pub settles : (had left : Seated) → false ≡ not (has_none had.ring.items) → IsSettled had left
    → Awaits had (not (has_none left.ring.items)) left
settles had left none s =
    let hands = s.settles.hands in
    record {
      came = take (due had.ring hands.lane) hands.lane.waiting;
      seat = s.settles.seated ∙ ap (λ r. record had { ring = r }) hands.ring;
      told = refl;
      held = λ some. absurd (true≢false (sym (ap not some) ∙ sym none));
      settled = λ _. s;
    }

-- it held nothing
pub held_none : (had : Seated) → false ≡ not (has_none had.ring.items) → has_none had.ring.items ≡ true
held_none had e = of (has_none had.ring.items) e
  where
    of : (b : Bool) → false ≡ not b → b ≡ true
    of true e = refl
    of false e = absurd (true≢false (sym e))

-- no message is found only where those who wait were told to stop, and so it is of what is left
pub stopped_found : (old new : Locked) (answer : Result (Option ClientMessage) ClientError) → FindsMessage old (Some answer) new
    → answer ≡ Ok None → new.stopped ≡ true
stopped_found old new (Ok None) f is = ap (λ (l : Locked). l.stopped) f.0.locked ∙ f.1
stopped_found old new (Ok (Some message)) f is = cc
stopped_found old new (Err why) f is = cc

-- and it is refused only where the client has failed
pub failed_found : (old new : Locked) (answer : Result (Option ClientMessage) ClientError) → FindsMessage old (Some answer) new
    → IfErr answer (λ e. e ≡ Failed)
failed_found old new (Ok message) f = tt
failed_found old new (Err why) f = f.0
