-- A step sends what the change of the cover tells.
use Rattle.std.proofs.Common.{◌≡◌, ℕ, Bool, true, false, cond, not, ◌==◌, List, [], ◌∷◌, map, refl, sym, ap, ◌∙◌, Option, Some, None, is_some}
use mathlib.Core.Bool.{true≢false}
use Rattle.std.specs.List.{filter}
use Rattle.std.specs.Option.{option_map, option_map_or}
use Rattle.rt_cover.specs.Cover.{Registered, Tagged}
use Rattle.rt_cover.specs.State.{shown_with, beyond, with_listeners, difference, without_tag}
use Rattle.rt_cover.specs.Runs.{Change, Add, Remove, Revoke, told}
use Rattle.rt_cover.specs.laws.SoundLaws.{told_exactly}
use Rattle.rt_world.specs.declared.step.Step.{Step}
use Rattle.rt_world.specs.World.{Reason, World, registered}
use Rattle.rt_world.specs.After.{kind, listeners_after, kept_after, started_by}
use Rattle.rt_world.specs.Messages.{stopped_by}
use Rattle.rt_world.specs.Sound.{cover_of, IsSound}
use Rattle.rt_world.specs.Covering.{cover_in, change_by, delta_by}
use Rattle.rt_world.proofs.HeardLaws.{stays, stopped_are}
use Rattle.rt_world.proofs.CoveringLaws.{registered_more, registered_fewer, registered_left}
use Rattle.rt_world.proofs.KindLaws.{Listening, still, adding, removing, revoking, orderly}

map-filter : {X Y : Type 0} (f : X → Y) (q : Y → Bool) (xs : List X) → filter q (map f xs) ≡ map f (filter (λ x. q (f x)) xs)
map-filter f q [] = refl
map-filter f q (x ∷ xs) = elim (q (f x)) as (λ b. cond b (f x ∷ filter q (map f xs)) (filter q (map f xs)) ≡ map f (cond b (x ∷ filter (λ y. q (f y)) xs) (filter (λ y. q (f y)) xs))) [
  | true ↦ ap (λ z. f x ∷ z) (map-filter f q xs)
  | false ↦ map-filter f q xs
]

-- what a change to the step's listeners tells
told_of : (w : World) (s : Step) → IsSound w → (ls : List Registered) → registered (listeners_after w s) ≡ ls
    → difference (cover_in w) (with_listeners (cover_in w) ls)
    ≡ record { started = map (shown_with (registered (listeners_after w s))) (started_by w s); stopped = map (λ (k : Tagged). k.tag) (filter (λ k. not (stays w s k)) w.kept) }
told_of w s h ls e =
    ap (λ l. difference (cover_in w) (with_listeners (cover_in w) l)) (sym e)
    ∙ told_exactly (cover_of w) (registered (listeners_after w s)) h.listens

-- a step that revokes nothing stops just what does not stay
plainly : (w : World) (s : Step) → IsSound w → (ls : List Registered) → registered (listeners_after w s) ≡ ls
    → map (λ (k : Tagged). k.tag) (filter (λ k. not (stays w s k)) w.kept) ≡ map (λ (k : Tagged). k.tag) (stopped_by w s)
    → difference (cover_in w) (with_listeners (cover_in w) ls) ≡ delta_by w s
plainly w s h ls e stops = told_of w s h ls e ∙ (λ j. record { started = map (shown_with (registered (listeners_after w s))) (started_by w s); stopped = stops j })

pub delta : (w : World) (s : Step) → IsSound w → (change : Change) → change_by w s ≡ Some change → told (cover_in w) change ≡ delta_by w s
delta w s h change e = at (orderly s).listeners
  where
    tags : List Tagged → List ℕ
    tags = map (λ (k : Tagged). k.tag)

    left : Option (ℕ × Reason) → List Tagged → List Tagged
    left o kept = option_map_or (λ (r : ℕ × Reason). filter (λ (k : Tagged). not (k.tag == r.0)) kept) o kept

    -- the change is the kind's
    is : (c : World → Change) → (kind s).change ≡ Some c → told (cover_in w) change ≡ told (cover_in w) (c w)
    is c f = ap (λ o. option_map_or (told (cover_in w)) o (delta_by w s)) (sym e ∙ ap (option_map (λ (g : World → Change). g w)) f)

    none : (kind s).revoked ≡ None → tags (filter (λ k. not (stays w s k)) w.kept) ≡ tags (stopped_by w s)
    none f = ap tags (sym (stopped_are w s h) ∙ (λ i. left (sym f i) (beyond w.kept (kept_after w s))))

    at : Listening (kind s) → told (cover_in w) change ≡ delta_by w s
    at (still x) = absurd (true≢false (ap is_some (sym e ∙ ap (option_map (λ (g : World → Change). g w)) x.change)))
    at (adding x) = is (λ v. Add v.next_listener x.query) x.change ∙ plainly w s h _ (registered_more w s h x) (none x.revoked)
    at (removing x) = is (λ v. Remove (x.numbers v)) x.change ∙ plainly w s h _ (registered_fewer w s h x) (none x.revoked)
    at (revoking x) =
        is (λ v. Revoke x.tag) x.change
        ∙ ap (without_tag x.tag) (told_of w s h _ (registered_left w s x))
        ∙ (λ j. record { started = map (shown_with (registered (listeners_after w s))) (started_by w s); stopped = stopped j })
      where
        stopped : filter (λ t. not (t == x.tag)) (tags (filter (λ k. not (stays w s k)) w.kept)) ≡ tags (stopped_by w s)
        stopped =
            map-filter (λ (k : Tagged). k.tag) (λ t. not (t == x.tag)) (filter (λ k. not (stays w s k)) w.kept)
            ∙ ap tags (ap (filter (λ (k : Tagged). not (k.tag == x.tag))) (sym (stopped_are w s h)) ∙ (λ i. left (sym x.revoked i) (beyond w.kept (kept_after w s))))
