use Rattle.std.proofs.Common.{◌≡◌, ◌<◌, ◌==◌, cond, sym, ap, subst, ◌∙◌}
use Rattle.std.specs.List.{list_any, All, AllPairs}
use Rattle.rt_query.specs.Queries.{Query}
use Rattle.rt_query.specs.Supply.{form}
use Rattle.rt_forms.specs.Forms.{Forms, numbers, share_form}
use Rattle.rt_forms.specs.Numbers.{without_number}
use Rattle.rt_cover.specs.Cover.{Registered}
use Rattle.rt_cover.specs.inside.Endings.{left}
use Rattle.rt_cover.specs.inside.Held.{IsHeld}
use Rattle.rt_cover.proofs.HeldLaws.{there_of, less_held, own_here}
use Rattle.rt_cover.proofs.listeners.Listeners.end_one.Goals as goal

pub remove-requires : goal.remove-requires
remove-requires c =
    let l : Registered = c.in-Some.listener in
    let t = c.in-Some.ensures.taken in
    let forms : Forms = c.self.inside.forms in
    let own : form l.1 ≡ l.1 = own_here t.before l t.behind (subst (All (λ (x : Registered). form x.1 ≡ x.1)) (sym c.self.view_is ∙ t.was) c.requires.own) in
    record {
      there = (λ i. list_any (λ m. m == c.number.ensures i) (numbers forms (c.form.ensures i)))
          ∙ there_of t.before l t.behind forms (subst (λ xs. IsHeld xs forms) t.was c.self.invariant) own;
    }

pub invariant_of-self-2 : goal.invariant_of-self-2
invariant_of-self-2 c =
    let l : Registered = c.in-Some.listener in
    let t = c.in-Some.ensures.taken in
    let old : Forms = c.self.inside.forms in
    let new : Forms = c.remove.new.self in
    let own : form l.1 ≡ l.1 = own_here t.before l t.behind (subst (All (λ (x : Registered). form x.1 ≡ x.1)) (sym c.self.view_is ∙ t.was) c.requires.own) in
    let rise : AllPairs (λ (x y : Registered). x.0 < y.0) c.self.inside.by_number.items = subst (AllPairs (λ (x y : Registered). x.0 < y.0)) (sym c.self.view_is) c.requires.rise in
    subst (λ xs. IsHeld xs new) (sym t.is)
    (less_held t.before l t.behind old new (subst (λ xs. IsHeld xs old) t.was c.self.invariant) (subst (AllPairs (λ (x y : Registered). x.0 < y.0)) t.was rise) own
    (λ q. c.remove.ensures.numbers q ∙ (λ i. cond (share_form q (c.form.ensures i)) (without_number (c.number.ensures i) (numbers old q)) (numbers old q)))
    c.remove.ensures.count)

pub returns : goal.returns
returns c = c.take_one.ensures.left ∙ ap (left (λ (x : Registered). c.args.number == x.0)) c.self.view_is

pub returns-in_default : goal.returns-in_default
returns-in_default c = c.take_one.ensures.left ∙ ap (left (λ (x : Registered). c.args.number == x.0)) c.self.view_is
