-- Refusals by kind of step, and those of the cover.
use Rattle.std.proofs.Common.{◌≡◌, ℕ, Bool, true, false, cond, not, ◌&&◌, ◌||◌, ◌==◌, List, [], ◌∷◌, map, refl, sym, ap, ◌∙◌, arith, suc, Option, Some, None, is_some}
use mathlib.Core.Bool.{true≢false}
use Rattle.std.specs.List.{filter, find, list_any, Contains}
use Rattle.std.specs.Option.{option_map, option_map_or}
use Rattle.rt_query.specs.Supply.{form}
use Rattle.rt_cover.specs.Cover.{Registered, Tagged}
use Rattle.rt_cover.specs.State.{is_registered, with_listener, without_listeners, left_after, lacks_tag, fault_of}
use Rattle.rt_cover.specs.declared.error.CoverError.{CoverError}
use Rattle.rt_cover.specs.declared.error.CoverError.TheVariants.{NoTag, UnknownListener, UnknownTag}
use Rattle.rt_cover.specs.laws.CoverLaws.{Contains-from_filter}
use Rattle.rt_world.specs.declared.step.Step.{Step}
use Rattle.rt_world.specs.World.{World, Listener, registered}
use Rattle.rt_world.specs.Refusals.{needs_tag, is_stale}
use Rattle.rt_world.specs.Answers.{step_by}
use Rattle.rt_world.specs.Covering.{cover_in}
use Rattle.rt_world.specs.steps.Closing.{numbers_of}
use Rattle.rt_world.specs.laws.Listened.{ListenMayAdd, UnlistenMayRemove, CloseSeatMayRemove, RevokedMayRevoke}
use Rattle.rt_world.specs.laws.Refused.{RefusedIsNothing, StaleIsNothing, OtherIsMade, RefusalIsOfKind, OwnIsNotStale, AcceptedIsStale, RefusedIsStale, RevokedIsStale, ListenNeedsTag, UnlistenNeedsTag, CloseSeatNeedsTag, RevokedNeedsTag}
use Rattle.rt_world.proofs.CoveringLaws.{one_more, revoked_left, unlistened, closed}
use Rattle.rt_world.proofs.HeardLaws.{map-append}
use Rattle.rt_world.proofs.KindLaws.{orderly}
use Rattle.rt_world.proofs.LimitLaws.{allowed}
use Rattle.rt_world.proofs.Listeners.{or_false_right, has_number, has_number-there, not_bound}

-- ---- answers

pub refused_is_nothing : RefusedIsNothing
refused_is_nothing w s e r = λ i. step_by (r i) (is_stale w s) w s

pub stale_is_nothing : StaleIsNothing
stale_is_nothing w s r f = λ i. step_by (r i) (f i) w s

pub other_is_made : OtherIsMade
other_is_made w s r f = λ i. step_by (r i) (f i) w s

-- ---- refusals

pub refusal_is_of_kind : RefusalIsOfKind
refusal_is_of_kind w s = (orderly s).refusals w (needs_tag w s)

-- ---- stale steps

pub own_is_not_stale : OwnIsNotStale
own_is_not_stale w s e = (orderly s).own e w

pub accepted_is_stale : AcceptedIsStale
accepted_is_stale w id = refl

pub refused_is_stale : RefusedIsStale
refused_is_stale w id why = refl

pub revoked_is_stale : RevokedIsStale
revoked_is_stale w tag why = refl

-- ---- tags

pub listen_needs_tag : ListenNeedsTag
listen_needs_tag w seat query h = ap (lacks_tag (cover_in w)) (map-append (λ (l : Listener). (l.number, form l.query)) w.listeners _ ∙ one_more w (form query) h)

pub unlisten_needs_tag : UnlistenNeedsTag
unlisten_needs_tag w seat listener = ap (lacks_tag (cover_in w)) (unlistened w listener)

pub close_seat_needs_tag : CloseSeatNeedsTag
close_seat_needs_tag w seat h = ap (lacks_tag (cover_in w)) (closed w seat h)

pub revoked_needs_tag : RevokedNeedsTag
revoked_needs_tag w tag why = ap (lacks_tag (cover_in w)) (revoked_left w tag)

-- ---- the cover's refusals

no_fault : (w : World) (ls : List Registered) (b : Bool) → b ≡ lacks_tag (cover_in w) ls → b ≡ false → fault_of (cover_in w) ls ≡ None
no_fault w ls b e f = ap (λ x. cond x (Some NoTag) None) (sym e ∙ f)

registered_number : (n : ℕ) (ls : List Listener) → is_registered (registered ls) n ≡ has_number n ls
registered_number n [] = refl
registered_number n (l ∷ ls) = ap (λ b. (l.number == n) || b) (registered_number n ls)

pub listen_may_add : ListenMayAdd
listen_may_add w seat query h free =
    let s : Step = Step.Listen seat query in
    record {
      new = registered_number w.next_listener w.listeners ∙ not_bound w.next_listener w.listeners h.below;
      fault = no_fault w (with_listener (registered w.listeners) w.next_listener (form query)) (needs_tag w s) (listen_needs_tag w seat query h)
          (or_false_right _ (needs_tag w s) (allowed w s free).listeners);
    }

-- a listener that is known is registered
known_number : (n seat : ℕ) (ls : List Listener) → not (list_any (λ (l : Listener). l.number == n && l.seat == seat) ls) ≡ false → has_number n ls ≡ true
known_number n seat [] e = absurd (true≢false e)
known_number n seat (l ∷ ls) e =
    elim (l.number == n) as (λ b. not ((b && l.seat == seat) || list_any (λ (x : Listener). x.number == n && x.seat == seat) ls) ≡ false → (b || has_number n ls) ≡ true) [
      | true ↦ λ f. refl
      | false ↦ λ f. known_number n seat ls f
    ] e

removable : (w : World) (ns : List ℕ) (unknown : Bool) (b : Bool) → unknown ≡ false → b ≡ lacks_tag (cover_in w) (without_listeners (registered w.listeners) ns) → b ≡ false
    → cond unknown (Some UnknownListener) (fault_of (cover_in w) (without_listeners (registered w.listeners) ns)) ≡ None
removable w ns unknown b u e f =
    ap (λ x. cond x (Some UnknownListener) (fault_of (cover_in w) (without_listeners (registered w.listeners) ns))) u
    ∙ no_fault w (without_listeners (registered w.listeners) ns) b e f

pub unlisten_may_remove : UnlistenMayRemove
unlisten_may_remove w seat listener free =
    let s : Step = Step.Unlisten seat listener in
    let a = allowed w s free in
    let known : is_registered (registered w.listeners) listener ≡ true = registered_number listener w.listeners ∙ known_number listener seat w.listeners a.unknown in
    removable w (listener ∷ []) _ (needs_tag w s) (ap (λ b. not b || false) known) (unlisten_needs_tag w seat listener) a.listeners

all_known : (all ls : List Listener) → ((l : Listener) → Contains ls l → Contains all l) → list_any (λ n. not (is_registered (registered all) n)) (map (λ (l : Listener). l.number) ls) ≡ false
all_known all [] h = refl
all_known all (l ∷ ls) h =
    let m = h l (0, omega arith, refl) in
    let known : is_registered (registered all) l.number ≡ true = registered_number l.number all ∙ has_number-there all m.0 l m.1 m.2 in
    let rest = all_known all ls (λ x c. h x (suc c.0, omega (arith, c.1), c.2)) in
    λ i. not (known i) || rest i

pub close_seat_may_remove : CloseSeatMayRemove
close_seat_may_remove w seat h free =
    let s : Step = Step.CloseSeat seat in
    removable w (numbers_of w seat) _ (needs_tag w s)
    (all_known w.listeners (filter (λ (l : Listener). l.seat == seat) w.listeners) (λ l m. Contains-from_filter (λ (x : Listener). x.seat == seat) w.listeners l m))
    (close_seat_needs_tag w seat h) (allowed w s free).listeners

pub revoked_may_revoke : RevokedMayRevoke
revoked_may_revoke w tag why free fresh =
    let s : Step = Step.Revoked tag why in
    at (find (λ (k : Tagged). k.tag == tag) w.kept) fresh (fault_of (cover_in w) (left_after (cover_in w) tag))
    (no_fault w (left_after (cover_in w) tag) (needs_tag w s) (revoked_needs_tag w tag why) (allowed w s free).revoked)
  where
    at : (o : Option Tagged) → not (is_some (option_map (λ (k : Tagged). k.form) o)) ≡ false → (f : Option CoverError) → f ≡ None → option_map_or (λ (k : Tagged). f) o (Some UnknownTag) ≡ None
    at None e f g = absurd (true≢false e)
    at (Some k) e f g = g
