-- What a seat is told of any steps keeps it up to date.
use Rattle.std.proofs.Common.{◌≡◌, ℕ, Bool, true, false, [], ◌∷◌, ◌++◌, refl, sym, ap, ◌∙◌, inl, inr, IsTrue, is_some, Option, Some, None}
use mathlib.Core.Bool.{true≢false}
use Rattle.std.proofs.lemmas.List.Elements.{All-head, All-tail}
use Rattle.rt_world.specs.declared.error.CoreError.{CoreError}
use Rattle.rt_world.specs.declared.step.Step.{Step}
use Rattle.rt_world.specs.World.{World, empty_world, pending}
use Rattle.rt_world.specs.After.{requests_after, brought_after, renewed}
use Rattle.rt_world.specs.Refusals.{refusal, is_stale}
use Rattle.rt_world.specs.Answers.{step_by, step}
use Rattle.rt_world.specs.Sound.{IsSound}
use Rattle.rt_world.specs.laws.Steps.{RenewedIsOne, StaysSound, WorldsAreSound}
use Rattle.rt_mail.specs.Mailbox.{known_of}
use Rattle.rt_client.specs.Seats.{receipts_to, reflection, told_by, told_in, does_close}
use Rattle.rt_client.specs.laws.Reflecting.{MadeReflects, UnmadeTellsNothing, StepReflects, ClosedIsForgotten, MirrorIsCore, MirrorStaysCore}
use Rattle.rt_client.proofs.Noted.{ids-closed, rows-closed}
use Rattle.rt_client.proofs.Reflects.{known-append}

-- ---- steps that are not made

-- a seat's call is never stale
pub no_receipt : (w : World) (s : Step) (seat : ℕ) → is_stale w s ≡ true → receipts_to seat w s ≡ []
no_receipt w (Step.Listen own query) seat e = absurd (true≢false (sym e))
no_receipt w (Step.Unlisten own n) seat e = absurd (true≢false (sym e))
no_receipt w (Step.Write own action) seat e = absurd (true≢false (sym e))
no_receipt w (Step.OnDisconnect own ending) seat e = absurd (true≢false (sym e))
no_receipt w (Step.Data tag path tree) seat e = refl
no_receipt w (Step.DataMerge tag entries) seat e = refl
no_receipt w (Step.Push parts) seat e = refl
no_receipt w (Step.Accepted id) seat e = refl
no_receipt w (Step.Refused id why) seat e = refl
no_receipt w (Step.Revoked tag why) seat e = refl
no_receipt w Step.Connected seat e = refl
no_receipt w Step.Disconnected seat e = refl
no_receipt w (Step.CloseSeat own) seat e = refl

-- what a seat is told of a step, by its refusal and whether it is stale
abbrev told_of : Option CoreError → Bool → World → Step → ℕ → Type 0
told_of o b w s seat = (told_by seat w s (step_by o b w s).1 ≡ []) × (reflection (step_by o b w s).0 seat ≡ reflection w seat)

refused_tells : (o : Option CoreError) (b : Bool) (w : World) (s : Step) (seat : ℕ) → IsTrue (is_some o) → told_of o b w s seat
refused_tells (Some e) b w s seat t = (refl, refl)
refused_tells None b w s seat t = absurd (true≢false (sym t))

stale_tells : (o : Option CoreError) (b : Bool) (w : World) (s : Step) (seat : ℕ) → b ≡ true → receipts_to seat w s ≡ [] → told_of o b w s seat
stale_tells (Some e) b w s seat t none = (refl, refl)
stale_tells None true w s seat t none = (ap (λ z. z ++ []) none, refl)
stale_tells None false w s seat t none = absurd (true≢false (sym t))

pub unmade_tells_nothing : UnmadeTellsNothing
unmade_tells_nothing w s seat (inl t) = let h = refused_tells (refusal w s) (is_stale w s) w s seat t in record { told = h.0; stays = h.1 }
unmade_tells_nothing w s seat (inr t) = let h = stale_tells (refusal w s) (is_stale w s) w s seat t (no_receipt w s seat t) in record { told = h.0; stays = h.1 }

-- ---- each step

step_by_reflects : MadeReflects → (o : Option CoreError) (b : Bool) (w : World) (s : Step) (seat : ℕ) → IsSound w → refusal w s ≡ o → is_stale w s ≡ b → does_close seat s ≡ false
    → known_of (reflection w seat) (told_by seat w s (step_by o b w s).1) ≡ reflection (step_by o b w s).0 seat
step_by_reflects made (Some e) b w s seat h r t closed = refl
step_by_reflects made None true w s seat h r t closed = ap (λ z. known_of (reflection w seat) (z ++ [])) (no_receipt w s seat t)
step_by_reflects made None false w s seat h r t closed = made w s seat h r closed

pub step_reflects : MadeReflects → StepReflects
step_reflects made w s seat h closed = step_by_reflects made (refusal w s) (is_stale w s) w s seat h refl refl closed

pub closed_is_forgotten : RenewedIsOne → ClosedIsForgotten
closed_is_forgotten same w seat =
    let s = Step.CloseSeat seat in
    let b = brought_after w s in
    let ws = pending (requests_after w s) in
    λ i. record { listeners = rows-closed seat (renewed b ws) (λ l. (same b ws l).1) w.listeners i; requests = ids-closed seat w.requests i }

-- ---- any steps

pub sound_by : StaysSound → (o : Option CoreError) (b : Bool) (w : World) (s : Step) → IsSound w → IsSound (step_by o b w s).0
sound_by stays (Some e) b w s h = h
sound_by stays None true w s h = h
sound_by stays None false w s h = stays w s h

pub mirror_stays_core : StaysSound → StepReflects → MirrorStaysCore
mirror_stays_core stays one w [] seat h stays_open = refl
mirror_stays_core stays one w (s ∷ rest) seat h stays_open =
    let v = (step w s).0 in
    known-append (reflection w seat) (told_by seat w s (step w s).1) (told_in seat v rest)
    ∙ ap (λ m. known_of m (told_in seat v rest)) (one w s seat h (All-head (λ (x : Step). does_close seat x ≡ false) s rest stays_open))
    ∙ mirror_stays_core stays one v rest seat (sound_by stays (refusal w s) (is_stale w s) w s h) (All-tail (λ (x : Step). does_close seat x ≡ false) s rest stays_open)

pub mirror_is_core : WorldsAreSound → MirrorStaysCore → MirrorIsCore
mirror_is_core sound stays limits steps seat stays_open = stays (empty_world limits) steps seat (sound limits []) stays_open
