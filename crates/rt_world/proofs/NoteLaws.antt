-- The notes of a step, listener by listener, and of one settlement.
use Rattle.std.proofs.Common.{◌≡◌, ℕ, ◌<◌, true, false, cond, ◌==◌, List, [], ◌∷◌, map, refl, sym, ap, subst, ◌∙◌, arith, slice_index_or, Option, Some, None}
use Rattle.std.specs.List.{filter_map, cons_option, find, All}
use Rattle.std.specs.Option.{option_map, option_and_then, option_to_list}
use Rattle.std.proofs.lemmas.List.Elements.{All-head, All-tail, All-contains, Contains-get_or}
use Rattle.rt_cover.specs.laws.Pairs.{AllPairs-first, AllPairs-rest}
use Rattle.rt_writes.specs.Writes.{Write}
use Rattle.rt_cache.specs.Brought.{Brought}
use Rattle.rt_world.specs.declared.report.Body.TheVariants.{Settled}
use Rattle.rt_world.specs.declared.report.Note.{Note}
use Rattle.rt_world.specs.declared.step.Request.{Request}
use Rattle.rt_world.specs.World.{Reason, Listener, World, pending}
use Rattle.rt_world.specs.After.{listeners_after, requests_after, brought_after, renewed}
use Rattle.rt_world.specs.Answers.{batch_from, batch_note, settled_note, view_before}
use Rattle.rt_world.specs.Headline.{view_by}
use Rattle.rt_world.specs.laws.Steps.{SettledOnceTold, BatchesAreNotes, StillIsQuiet}
use Rattle.rt_world.proofs.Listeners.{same_number, other_number, number-renewed}
use Rattle.rt_world.proofs.ShowLaws.{IsCarried, carried_after, still_due}

-- ---- settlements

one_more : {X : Type 0} (o : Option X) → cons_option o [] ≡ option_to_list o
one_more (Some x) = refl
one_more None = refl

-- above the number none is told
none_above : (d : ℕ × Option Reason) (rs : List Request) → All (λ (r : Request). d.0 < r.id) rs → filter_map (settled_note d) rs ≡ []
none_above d [] h = refl
none_above d (r ∷ rs) h =
    let low : d.0 < r.id = All-head (λ (x : Request). d.0 < x.id) r rs h in
    ap (λ b. cons_option (cond b (option_map (λ seat. record { seat = seat; body = Settled d.0 d.1 }) r.seat) None) (filter_map (settled_note d) rs))
    (other_number r.id d.0 (λ e. omega (arith, low, e)))
    ∙ none_above d rs (All-tail (λ (x : Request). d.0 < x.id) r rs h)

pub settled_once_told : SettledOnceTold
settled_once_told d [] rise = refl
settled_once_told d (r ∷ rs) rise =
    let told : Option Note = option_map (λ seat. record { seat = seat; body = Settled d.0 d.1 }) r.seat in
    elim (r.id == d.0) as (λ b. (r.id == d.0) ≡ b → cons_option (cond b told None) (filter_map (settled_note d) rs) ≡ option_to_list (option_and_then (settled_note d) (cond b (Some r) (find (λ x. x.id == d.0) rs)))) [
      | true ↦ λ e.
          let above = subst (λ n. All (λ (x : Request). n < x.id) rs) (same_number r.id d.0 e) (AllPairs-first (λ (x y : Request). x.id < y.id) r rs rise) in
          ap (cons_option told) (none_above d rs above) ∙ one_more told ∙ sym (ap (λ b. option_to_list (cond b told None)) e)
      | false ↦ λ e. settled_once_told d rs (AllPairs-rest (λ (x y : Request). x.id < y.id) r rs rise)
    ] refl

-- ---- batches

-- the note of a listener in a list of those before
abbrev noted : List Listener → Listener → Option Note
noted before l = batch_note l (batch_from (view_before before l.number) l)

same_notes : (w : World) (b : Brought) (ws : List Write) (ls : List Listener) → All (IsCarried w) ls
    → filter_map (noted w.listeners) (map (renewed b ws) ls) ≡ filter_map (λ l. batch_note (renewed b ws l) (batch_from l.view (renewed b ws l))) ls
same_notes w b ws [] h = refl
same_notes w b ws (l ∷ ls) h =
    let c = All-head (IsCarried w) l ls h in
    let before : view_before w.listeners (renewed b ws l).number ≡ l.view = ap (view_before w.listeners) (number-renewed b ws l) ∙ c.before in
    λ i. cons_option (batch_note (renewed b ws l) (batch_from (before i) (renewed b ws l))) (same_notes w b ws ls (All-tail (IsCarried w) l ls h) i)

pub batches_are_notes : BatchesAreNotes
batches_are_notes w s h =
    same_notes w (brought_after w s) (pending (requests_after w s)) (listeners_after w s)
    (λ k d lt. carried_after w s h (slice_index_or (listeners_after w s) k d) (Contains-get_or (listeners_after w s) k d lt))

pub still_is_quiet : StillIsQuiet
still_is_quiet w l h m =
    ap (batch_note l) (still_due w l l.is_primed (All-contains (λ (x : Listener). x.view ≡ view_by x.is_primed w x.query) w.listeners l h.views m))
