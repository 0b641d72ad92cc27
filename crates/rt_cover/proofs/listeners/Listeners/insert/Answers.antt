use Rattle.std.proofs.Common.{◌≡◌, ◌<◌, ◌==◌, ℕ, cond, false, sym, ap, subst, ◌∙◌}
use Rattle.std.specs.List.{list_any, AllPairs}
use Rattle.rt_query.specs.Queries.{Query}
use Rattle.rt_forms.specs.Forms.{Forms, numbers, share_form}
use Rattle.rt_forms.specs.Numbers.{with_number}
use Rattle.rt_cover.specs.Cover.{Registered}
use Rattle.rt_cover.specs.State.{is_registered, with_listener}
use Rattle.rt_cover.specs.inside.Held.{IsHeld}
use Rattle.rt_cover.proofs.HeldLaws.{free_of, more_held}
use Rattle.rt_cover.proofs.listeners.Listeners.insert.Goals as goal

pub add-requires-clause-free : goal.add-requires-clause-free
add-requires-clause-free c =
    let l : Registered = c.args.listener in
    let forms : Forms = c.self.inside.forms in
    let free : is_registered c.self.inside.by_number.items l.0 ≡ false = (λ i. is_registered (c.self.view_is i) l.0) ∙ c.requires.free in
    (λ i. list_any (λ m. m == c.number.ensures i) (numbers forms (c.form.ensures i)))
    ∙ free_of c.self.inside.by_number.items forms l.0 l.1 c.self.invariant free c.requires.own

pub invariant_of-self-2 : goal.invariant_of-self-2
invariant_of-self-2 c =
    let l : Registered = c.args.listener in
    let old : Forms = c.self.inside.forms in
    let new : Forms = c.add.new.self in
    let free : is_registered c.self.inside.by_number.items l.0 ≡ false = (λ i. is_registered (c.self.view_is i) l.0) ∙ c.requires.free in
    let rise : AllPairs (λ (x y : Registered). x.0 < y.0) c.self.inside.by_number.items = subst (AllPairs (λ (x y : Registered). x.0 < y.0)) (sym c.self.view_is) c.requires.rise in
    let items : c.insert_listener.new.listeners.items ≡ with_listener c.self.inside.by_number.items l.0 l.1 =
    c.insert_listener.ensures ∙ (λ i. with_listener (c.reserve.ensures.items i) l.0 l.1) in
    let more : (q : Query) → numbers new q ≡ cond (share_form q l.1) (with_number l.0 (numbers old q)) (numbers old q) =
    λ q. c.in_ok-add.ensures.numbers q ∙ (λ i. cond (share_form q (c.form.ensures i)) (with_number (c.number.ensures i) (numbers old q)) (numbers old q)) in
    subst (λ xs. IsHeld xs new) (sym items)
    (more_held c.self.inside.by_number.items old new l.0 l.1 c.self.invariant rise free c.requires.own more c.in_ok-add.ensures.count)
