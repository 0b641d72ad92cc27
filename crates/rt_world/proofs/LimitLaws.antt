-- No number goes past the last one.
use Rattle.std.proofs.Common.{◌≡◌, ℕ, ◌+◌, ◌≤◌, Bool, true, false, cond, not, ◌==◌, ◌⊎◌, inl, inr, List, [], ◌∷◌, ◌++◌, length, refl, sym, ap, subst, ◌∙◌, arith, length-append, Option, Some, None, is_some, nat_le, nat_lt, ltb-false}
use Rattle.std.specs.List.{filter, find}
use Rattle.std.specs.Option.{option_map}
use Rattle.std.proofs.lemmas.Bool.{leb-false}
use Rattle.rt_cover.specs.laws.KeepLaws.{length_of_map}
use Rattle.rt_wire.specs.declared.request.Asked.{Asked}
use Rattle.rt_world.specs.declared.error.CoreError.{CoreError}
use Rattle.rt_world.specs.declared.step.Request.{Request}
use Rattle.rt_world.specs.declared.step.Step.{Step}
use Rattle.rt_world.specs.World.{World, Listener, pending}
use Rattle.rt_world.specs.steps.Revoking.{is_cancelled}
use Rattle.rt_world.specs.After.{kind, listeners_after, requests_after, brought_after, renewed, started_by, listener_given, request_given, counted}
use Rattle.rt_world.specs.steps.Closing.{unseated}
use Rattle.rt_world.specs.Messages.{next}
use Rattle.rt_world.specs.Refusals.{conditions, refusal, is_stale, needs_tag}
use Rattle.rt_world.specs.Answers.{step, step_by, world_after}
use Rattle.rt_world.specs.Sound.{IsSound}
use Rattle.rt_world.specs.Limited.{IsWithin, IsAllowed}
use Rattle.rt_world.specs.laws.World.{NumbersStayWithin}
use Rattle.rt_world.proofs.KindLaws.{first_seen, Listening, still, adding, removing, revoking, Requesting, keeping, unseating, asking, settling, orderly, is_still}
use Rattle.rt_world.proofs.Listeners.{or_false_left, or_false_right}
use Rattle.rt_world.proofs.HeardLaws.{started-same}
use Rattle.rt_world.proofs.SoundLaws.{sound_step}

-- ---- a step that is not refused

-- no condition holds
abbrev NoneHolds : List (Bool × CoreError) → Type 0
NoneHolds [] = Unit {0}
NoneHolds (c ∷ cs) = (c.0 ≡ false) × NoneHolds cs

none_holds : (cs : List (Bool × CoreError)) → option_map (λ c. c.1) (find (λ c. c.0) cs) ≡ None → NoneHolds cs
none_holds [] h = tt
none_holds (c ∷ cs) h = elim c.0 as (λ b. option_map (λ c. c.1) (cond b (Some c) (find (λ c. c.0) cs)) ≡ None → (b ≡ false) × NoneHolds cs) [
  | true ↦ λ g. cc
  | false ↦ λ g. (refl, none_holds cs g)
] h

pub allowed : (w : World) (s : Step) → refusal w s ≡ None → IsAllowed w s
allowed w s h =
    let a = none_holds (conditions w s) h in
    record {
      unknown = a.0;
      listeners = a.1.0;
      requests = a.1.1.0;
      overlap = a.1.1.1.0;
      empty = a.1.1.1.1.0;
      deep = a.1.1.1.1.1.0;
      push = a.1.1.1.1.1.1.0;
      connected = a.1.1.1.1.1.1.1.0;
      connection = a.1.1.1.1.1.1.1.1.0;
      revoked = a.1.1.1.1.1.1.1.1.1.0;
    }

-- ---- lengths

shorter : {X : Type 0} (p : X → Bool) (xs : List X) → length (filter p xs) ≤ length xs
shorter p [] = omega arith
shorter p (x ∷ xs) = elim (p x) as (λ b. length (cond b (x ∷ filter p xs) (filter p xs)) ≤ length (x ∷ xs)) [ true ↦ omega (arith, shorter p xs) | false ↦ omega (arith, shorter p xs) ]

-- ---- each limit

pub record Counts (w : World) (s : Step) : Type 0 where
  listeners : length (listeners_after w s) ≤ w.limits.listeners
  requests : length (requests_after w s) ≤ w.limits.requests
  next_listener : counted w.next_listener (listener_given w s) ≤ w.limits.last_number + 1
  next_request : counted w.next_request (request_given w s) ≤ w.limits.last_number + 1
  next_tag : w.next_tag + length (started_by w s) ≤ w.limits.last_number + 1

tag : (w : World) (s : Step) → needs_tag w s ≡ false → w.next_tag + length (started_by w s) ≤ w.limits.last_number + 1
tag w s e = ltb-false (w.limits.last_number + 1) (w.next_tag + length (started_by w s)) e

-- a step that starts listens has tags for them
pub has_tags : (w : World) (s : Step) → IsSound w → IsAllowed w s → started_by w s ≡ [] ⊎ w.next_tag + length (started_by w s) ≤ w.limits.last_number + 1
has_tags w s h a = at (is_some (kind s).change) refl
  where
    at : (b : Bool) → is_some (kind s).change ≡ b → started_by w s ≡ [] ⊎ w.next_tag + length (started_by w s) ≤ w.limits.last_number + 1
    at true e = inr (tag w s ((orderly s).tags e w (needs_tag w s) a.listeners a.revoked))
    at false e = inl (started-same w s h ((is_still s e).listeners w))

one_more : {X : Type 0} (xs : List X) (x : X) (most : ℕ) → nat_le most (length xs) ≡ false → length (xs ++ x ∷ []) ≤ most
one_more xs x most e = let room = leb-false most (length xs) e in omega (arith, room, length-append xs (x ∷ []))

-- the listeners, and the next number of one
few_listeners : (w : World) (s : Step) → IsWithin w → IsAllowed w s → (length (listeners_after w s) ≤ w.limits.listeners) × (counted w.next_listener (listener_given w s) ≤ w.limits.last_number + 1)
few_listeners w s i a = at (orderly s).listeners
  where
    Few : List Listener → Type 0
    Few ls = length ls ≤ w.limits.listeners

    Next : Bool → Type 0
    Next registers = counted w.next_listener (cond registers (Some w.next_listener) None) ≤ w.limits.last_number + 1

    fewer : (p : Listener → Bool) → Few (filter p w.listeners)
    fewer p = let less = shorter p w.listeners in omega (arith, less, i.listeners)

    at : Listening (kind s) → Few (listeners_after w s) × Next (kind s).registers
    at (still x) = (subst Few (sym (x.listeners w)) i.listeners, subst Next (sym x.registers) i.next_listener)
    at (adding x) =
        let r = x.room w (needs_tag w s) a.listeners in
        let number = ltb-false w.limits.last_number w.next_listener r.number in (
          subst Few (sym (x.listeners w)) (one_more w.listeners (first_seen w x.seat x.query) w.limits.listeners r.listeners),
          subst Next (sym x.registers) (omega (arith, number)),
        )
    at (removing x) = (subst Few (sym (x.listeners w)) (fewer (x.stays w)), subst Next (sym x.registers) i.next_listener)
    at (revoking x) = (subst Few (sym (x.listeners w)) (fewer (λ l. not (is_cancelled w x.tag l))), subst Next (sym x.registers) i.next_listener)

-- the requests, and the next number of one
few_requests : (w : World) (s : Step) → IsWithin w → IsAllowed w s → (length (requests_after w s) ≤ w.limits.requests) × (counted w.next_request (request_given w s) ≤ w.limits.last_number + 1)
few_requests w s i a = at (orderly s).requests
  where
    Few : List Request → Type 0
    Few rs = length rs ≤ w.limits.requests

    Next : Option (ℕ × Asked) → Type 0
    Next asked = counted w.next_request (option_map (λ _. w.next_request) asked) ≤ w.limits.last_number + 1

    at : Requesting (kind s) → Few (requests_after w s) × Next (kind s).asked
    at (keeping settled asked requests) = (subst Few (sym (requests w)) i.requests, subst Next (sym asked) i.next_request)
    at (unseating seat settled asked requests) = (subst Few (sym (requests w)) (omega (arith, length_of_map (unseated seat) w.requests, i.requests)), subst Next (sym asked) i.next_request)
    at (asking x settled asked requests room) =
        let free = sym (room w) ∙ a.requests in
        let number = ltb-false w.limits.last_number w.next_request (or_false_right (nat_le w.limits.requests (length w.requests)) _ free) in (
          subst Few (sym (requests w)) (one_more w.requests _ w.limits.requests (or_false_left (nat_le w.limits.requests (length w.requests)) (nat_lt w.limits.last_number w.next_request) free)),
          subst Next (sym asked) (omega (arith, number)),
        )
    at (settling d settled asked requests) =
        let less = shorter (λ (r : Request). not (r.id == d.0)) w.requests in
        (subst Few (sym (requests w)) (omega (arith, less, i.requests)), subst Next (sym asked) i.next_request)

pub counts : (w : World) (s : Step) → IsSound w → IsWithin w → IsAllowed w s → Counts w s
counts w s h i a =
    let ls = few_listeners w s i a in
    let rs = few_requests w s i a in
    record {
      listeners = ls.0;
      requests = rs.0;
      next_listener = ls.1;
      next_request = rs.1;
      next_tag = elim (has_tags w s h a) [ inl none ↦ omega (arith, ap length none, i.next_tag) | inr room ↦ room ];
    }

-- ---- worlds

pub within_next : (w : World) (s : Step) → Counts w s → IsWithin (next w s)
within_next w s c = record {
  listeners = omega (arith, length_of_map (renewed (brought_after w s) (pending (requests_after w s))) (listeners_after w s), c.listeners);
  requests = c.requests;
  next_listener = c.next_listener;
  next_request = c.next_request;
  next_tag = c.next_tag;
}

within_step : (w : World) (s : Step) (o : Option CoreError) (b : Bool) → IsSound w → IsWithin w → (o ≡ None → IsAllowed w s) → IsWithin (step_by o b w s).0
within_step w s (Some e) b h i a = i
within_step w s None true h i a = i
within_step w s None false h i a = within_next w s (counts w s h i (a refl))

within_run : (steps : List Step) (w : World) → IsSound w → IsWithin w → IsWithin (world_after w steps)
within_run [] w h i = i
within_run (s ∷ rest) w h i =
    within_run rest (step w s).0 (sound_step w s (refusal w s) (is_stale w s) h) (within_step w s (refusal w s) (is_stale w s) h i (allowed w s))

pub numbers_stay_within : NumbersStayWithin
numbers_stay_within w steps = within_run steps w
