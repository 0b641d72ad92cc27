-- A connection that is left, and what a turn makes of it.
use Rattle.std.proofs.Common.{rules, ◌≡◌, ◌∙◌, Bool, true, false, Ok, inl, inr, List, ◌++◌, ap, subst, sym}
use Rattle.std.specs.Prelude.{◌≢◌}
use mathlib.Core.List.{append-nil}
use Rattle.rt_socket.specs.declared.patience.Patience.{Patience}
use Rattle.rt_socket.specs.declared.patience.Patience.TheVariants as patience
use Rattle.rt_socket.specs.declared.wire.Flushed.{Flushed}
use Rattle.rt_socket.specs.declared.wire.Flushed.TheVariants as flush
use Rattle.rt_link.specs.Carrying.{Standing, Shaking, Open, Closing, Gone, Carried, Closes, GoesOn, IsLeft, PassesOver, Turns}
use Rattle.rt_link.specs.Carrying.{left_standing}
use Rattle.rt_link.specs.Turning.{is_awaited, left_by, AwaitsEnd, Parts, SeesOff}
use Rattle.rt_link.specs.declared.connection.LinkTurn.{LinkTurn}
use Rattle.rt_link.specs.declared.connection.LinkTurn.TheVariants as turn
use Rattle.rt_link.specs.declared.link.Parting.{Parting}
use Rattle.rt_link.specs.declared.link.Parting.TheVariants.{Over}
use Rattle.rt_link.specs.declared.turn.Passed.{Passed}

-- it is left, the server told of it or not
pub left_so : (is_said : Bool) (new : Standing) → new ≡ left_standing is_said → Closes Open new
left_so true new e = inl e
left_so false new e = inr e

-- ---- a server that is left is seen off

awaits_parts : (p : Patience) (is_more : Bool) (t : LinkTurn) → AwaitsEnd p is_more t → Parts t
awaits_parts (patience.Wait millis) true t e = subst (λ x. Parts x) (sym e) tt
awaits_parts (patience.Wait millis) false t e = subst (λ x. Parts x) (sym e.2) tt
awaits_parts patience.Ping is_more t e = subst (λ x. Parts x) (sym e) tt
awaits_parts patience.GiveUp is_more t e = subst (λ x. Parts x) (sym e) tt

pub sees_off_parts : (f : Flushed) (p : Patience) (is_more : Bool) (t : LinkTurn) → SeesOff f p is_more t → Parts t
sees_off_parts flush.Done p is_more t e = awaits_parts p is_more t e
sees_off_parts flush.Blocked p is_more t e = awaits_parts p is_more t e
sees_off_parts (flush.Failed why) p is_more t e = subst (λ x. Parts x) (sym e) tt

pub awaited : (t : LinkTurn) (new : Standing) → Parts t → is_awaited (Ok t) ≡ true → new ≡ Closing
    → GoesOn Closing t new
awaited (turn.Idle most) new p a e = e
awaited turn.More new p a e = e
awaited (turn.NotOpened why) new p a e = absurd p
awaited (turn.Ended why) new p a e = absurd (search rules)

pub awaited_no_more : (t : LinkTurn) (new : Standing) → Parts t → is_awaited (Ok t) ≡ false → new ≡ Gone
    → GoesOn Closing t new
awaited_no_more (turn.Idle most) new p a e = absurd (search rules)
awaited_no_more turn.More new p a e = absurd (search rules)
awaited_no_more (turn.NotOpened why) new p a e = absurd p
awaited_no_more (turn.Ended why) new p a e = e

closing_is_left : (new : Standing) → new ≡ Closing → IsLeft new
closing_is_left new e = subst (λ s. IsLeft s) (sym e) tt

gone_is_left : (new : Standing) → new ≡ Gone → IsLeft new
gone_is_left new e = subst (λ s. IsLeft s) (sym e) tt

-- it stays left
pub stays_left : (old new : Standing) (t : LinkTurn) → IsLeft old → Turns old t new → IsLeft new
stays_left Shaking new t l h = absurd l
stays_left Open new t l h = absurd l
stays_left Closing new (turn.Idle most) l h = closing_is_left new h
stays_left Closing new turn.More l h = closing_is_left new h
stays_left Closing new (turn.NotOpened why) l h = absurd h
stays_left Closing new (turn.Ended why) l h = gone_is_left new h
stays_left Gone new t l h = gone_is_left new h.1

gone_so : (old new : Standing) (t : LinkTurn) → Over ≡ left_by t → IsLeft old → Turns old t new → new ≡ Gone
gone_so Shaking new t o l h = absurd l
gone_so Open new t o l h = absurd l
gone_so Closing new (turn.Idle most) o l h = absurd (search rules)
gone_so Closing new turn.More o l h = absurd (search rules)
gone_so Closing new (turn.NotOpened why) o l h = absurd h
gone_so Closing new (turn.Ended why) o l h = h
gone_so Gone new t o l h = h.1

-- and is gone where that is over
pub over_is_gone : (old new : Standing) (t : LinkTurn) (p : Parting) → p ≡ left_by t → p ≡ Over → IsLeft old
    → Turns old t new → new ≡ Gone
over_is_gone old new t p e o l h = gone_so old new t (sym o ∙ e) l h

not_open : (old : Standing) → IsLeft old → old ≢ Open
not_open Shaking l = absurd l
not_open Open l = absurd l
not_open Closing l = λ e. search rules
not_open Gone l = λ e. search rules

-- it passes nothing over
pub left_passes_nothing : (old : Carried) (new : List Passed) → IsLeft old.standing → PassesOver old new
    → new ≡ old.passed
left_passes_nothing old new l p =
    p.1 ∙ ap (λ more. old.passed ++ more) (p.2 (not_open old.standing l)) ∙ append-nil old.passed
