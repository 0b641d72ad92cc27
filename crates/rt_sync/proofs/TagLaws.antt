-- Which changes of listeners lack a tag.
use Rattle.std.proofs.Common.{◌≡◌, ℕ, ◌+◌, ◌<◌, Bool, true, false, cond, ◌&&◌, ◌||◌, not, map, List, [], ◌∷◌, length, refl, sym, ap, subst, ◌∙◌, arith, Option, Some, None}
use lib.Dec.{T, eqb→eq}
use Rattle.std.specs.Prelude.{◌==◌}
use Rattle.std.specs.List.{All, filter, find, list_any}
use Rattle.std.specs.Option.{option_map, option_map_or}
use Rattle.std.proofs.lemmas.Bool.{le-ltb}
use Rattle.std.proofs.lemmas.List.Elements.{All-head, All-tail}
use Rattle.rt_query.specs.QueryEq.{query_eq}
use Rattle.rt_query.specs.Supply.{form}
use Rattle.rt_cover.specs.Cover.{Tagged}
use Rattle.rt_cover.specs.State.{Cover, is_registered, lacks_tag, left_after, listen_at, without_chosen}
use Rattle.rt_world.specs.declared.step.Step.{Step}
use Rattle.rt_world.specs.World.{Reason, World, Listener, registered}
use Rattle.rt_world.specs.After.{listeners_after, started_by}
use Rattle.rt_world.specs.Refusals.{needs_tag}
use Rattle.rt_world.specs.Covering.{cover_in}
use Rattle.rt_world.specs.Sound.{IsSound}
use Rattle.rt_world.specs.laws.Refused.{CloseSeatNeedsTag, RevokedNeedsTag}
use Rattle.rt_world.specs.laws.Steps.{ListensStay}
use Rattle.rt_sync.specs.inside.Due.{IsGood}
use Rattle.rt_sync.specs.inside.StateView.{IsTied}

-- a smaller number is another
pub other_number : (m n : ℕ) → m < n → (m == n) ≡ false
other_number m n lt = elim (m == n) as (λ b. (m == n) ≡ b → b ≡ false) [
  | true ↦ λ e. let same : m ≡ n = eqb→eq m n (subst (λ b. T b) (sym e) tt) in absurd (omega (arith, same))
  | false ↦ λ e. refl
] refl

-- the next number is no listener's
pub new_number : (w : World) → IsSound w → is_registered (registered w.listeners) w.next_listener ≡ false
new_number w h = none w.listeners h.below
  where
    none : (ls : List Listener) → All (λ (l : Listener). l.number < w.next_listener) ls → is_registered (registered ls) w.next_listener ≡ false
    none [] h = refl
    none (l ∷ ls) h =
        let head = other_number l.number w.next_listener (All-head (λ (x : Listener). x.number < w.next_listener) l ls h) in
        let tail = none ls (All-tail (λ (x : Listener). x.number < w.next_listener) l ls h) in
        λ i. head i || tail i

-- the parts agree, so the cover is the world's
pub cover_tied : (cover : Cover) (w : World) → IsTied cover w → w.kept ≡ cover.kept → w.next_tag ≡ cover.next_tag → cover ≡ cover_in w
cover_tied cover w t kept next = λ i. record { listeners = t.listened i; kept = sym kept i; next_tag = sym next i; last_tag = t.last_tag i }

-- the numbers of a seat's listeners are those of which it has a listener
own_chosen : (seat n : ℕ) (ls : List Listener) → list_any (λ (l : Listener). l.number == n && l.seat == seat) ls ≡ list_any (λ m. m == n) (map (λ (l : Listener). l.number) (filter (λ (l : Listener). l.seat == seat) ls))
own_chosen seat n [] = refl
own_chosen seat n (l ∷ ls) = elim (l.seat == seat) as (λ b. ((l.number == n && b) || list_any (λ (x : Listener). x.number == n && x.seat == seat) ls) ≡ list_any (λ m. m == n) (map (λ (x : Listener). x.number) (cond b (l ∷ filter (λ (x : Listener). x.seat == seat) ls) (filter (λ (x : Listener). x.seat == seat) ls)))) [
  | true ↦ λ i. and_true (l.number == n) i || own_chosen seat n ls i
  | false ↦ λ i. and_false (l.number == n) i || own_chosen seat n ls i
]
  where
    and_true : (b : Bool) → (b && true) ≡ b
    and_true true = refl
    and_true false = refl

    and_false : (b : Bool) → (b && false) ≡ false
    and_false true = refl
    and_false false = refl

pub close_needs : CloseSeatNeedsTag → (w : World) (seat : ℕ) → IsSound w → lacks_tag (cover_in w) (without_chosen (λ n. list_any (λ (l : Listener). l.number == n && l.seat == seat) w.listeners) (registered w.listeners)) ≡ needs_tag w (Step.CloseSeat seat)
close_needs law w seat h =
    (λ i. lacks_tag (cover_in w) (without_chosen (λ n. own_chosen seat n w.listeners i) (registered w.listeners))) ∙ sym (law w seat h)

pub revoke_needs : RevokedNeedsTag → ListensStay → (w : World) (tag : ℕ) (why : Reason) → IsGood w → option_map_or (λ _. lacks_tag (cover_in w) (left_after (cover_in w) tag)) (listen_at (cover_in w) tag) false ≡ needs_tag w (Step.Revoked tag why)
revoke_needs law stay w tag why g = at (find (λ (k : Tagged). k.tag == tag) w.kept) refl
  where
    s : Step
    s = Step.Revoked tag why

    all : (ls : List Listener) → filter (λ (l : Listener). true) ls ≡ ls
    all [] = refl
    all (l ∷ ls) = ap (λ x. l ∷ x) (all ls)

    at : (o : Option Tagged) → find (λ (k : Tagged). k.tag == tag) w.kept ≡ o → option_map_or (λ _. lacks_tag (cover_in w) (left_after (cover_in w) tag)) o false ≡ needs_tag w (Step.Revoked tag why)
    at (Some k) e = sym (law w tag why)
    at None e =
        let same : listeners_after w s ≡ w.listeners = (λ i. filter (λ l. not (option_map_or (query_eq (form l.query)) (option_map (λ (k : Tagged). k.form) (e i)) false)) w.listeners) ∙ all w.listeners in
        let none : length (started_by w s) ≡ 0 = ap length (stay w s g.sound same).started in
        sym (le-ltb (w.limits.last_number + 1) (w.next_tag + length (started_by w s)) (omega (arith, none, g.within.next_tag)))
