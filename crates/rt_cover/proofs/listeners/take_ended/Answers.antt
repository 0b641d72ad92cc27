use Rattle.std.proofs.Common.{◌≡◌, ◌+◌, ◌==◌, ℕ, Bool, List, cond, true, false, sym, ap, subst, ◌∙◌}
use Rattle.std.specs.List.{list_any}
use Rattle.rt_query.specs.Queries.{Query}
use Rattle.rt_forms.specs.Forms.{Forms, numbers, share_form}
use Rattle.rt_forms.specs.Numbers.{without_number}
use Rattle.rt_cover.specs.Cover.{Registered}
use Rattle.rt_cover.specs.inside.Endings.{by_number}
use Rattle.rt_cover.proofs.HeldLaws.{walked, IsWalked, there_at, step_ended, step_left}
use Rattle.rt_cover.proofs.listeners.take_ended.Goals as goal
use Rattle.rt_cover.proofs.listeners.take_ended.Goals.{then-ends, else-ends}

pub remove-requires : goal.remove-requires
remove-requires g c =
    let l : Registered = c.listener-item.result in
    record {
      there = (λ i. list_any (λ m. m == c.number-then-ends.ensures i) (numbers c.loop-listener.forms (c.form.ensures i)))
          ∙ there_at (by_number (g.E.EndedListeners.ended c.args.ending.now)) c.args.listeners.now c.loop-listener.listener-index l c.loop-listener.forms
          c.loop-listener-test.true c.listener-item.is c.loop-listener.invariant;
    }

pub loop-listener-preserved : goal.loop-listener-preserved
loop-listener-preserved g c =
    let ends : Registered → Bool = by_number (g.E.EndedListeners.ended c.args.ending.now) in
    let ls : List Registered = c.args.listeners.now in
    let i : ℕ = c.loop-listener.listener-index in
    let l : Registered = c.listener-item.result in
    let old : Forms = c.loop-listener.forms in
    let told : c.ends.result ≡ ends l = c.ends.ensures ∙ ap (g.E.EndedListeners.ended c.args.ending.now) c.number.ensures in
    elim c.if-ends.branch [
      | then-ends w ↦
          subst (IsWalked (walked ends (i + 1) ls)) (sym w.forms-is)
          (step_ended ends ls i l old w.remove.new.self c.loop-listener-test.true c.listener-item.is (sym told ∙ w.if-ends.true) c.loop-listener.invariant
          (λ q. w.remove.ensures.numbers q ∙ (λ j. cond (share_form q (w.form.ensures j)) (without_number (w.number-then-ends.ensures j) (numbers old q)) (numbers old q)))
          w.remove.ensures.count)
      | else-ends w ↦ step_left ends ls i l old _ c.loop-listener-test.true c.listener-item.is (sym told ∙ w.if-ends.false) c.loop-listener.invariant w.forms-is
    ]
