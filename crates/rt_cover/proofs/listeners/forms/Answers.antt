use Rattle.std.proofs.Common.{◌≡◌, ◌<◌, ◌++◌, ◌∷◌, [], not, sym, subst, ◌∙◌}
use Rattle.std.specs.List.{AllPairs}
use Rattle.rt_cover.specs.Cover.{Registered}
use Rattle.rt_cover.proofs.StartLaws.{is_seen}
use Rattle.rt_cover.proofs.ByPathLaws.{forms_by_firsts, formed_takes, formed_leaves}
use Rattle.rt_cover.proofs.listeners.forms.Goals as goal
use Rattle.rt_cover.proofs.listeners.forms.Goals.{then-is_first+in_ok-copy+in_ok-push, else-is_first}

pub loop-listener-init : goal.loop-listener-init
loop-listener-init c = (λ i. c.new-forms.ensures.items i ++ forms_by_firsts c.as_slice-by_number.result.now
    (subst (AllPairs (λ (l m : Registered). l.0 < m.0)) (sym c.as_slice-by_number.ensures) c.requires.rise) i)

pub loop-listener-preserved : goal.loop-listener-preserved
loop-listener-preserved c =
    let ls = c.as_slice-by_number.result.now in
    let l : Registered = c.listener-item.result in
    let first : not (is_seen ls l) ≡ c.is_first.result = (λ i. not (is_seen (c.as_slice-by_number.ensures i) l)) ∙ sym c.is_first.ensures in
    elim c.if-is_first.branch [
      | then-is_first+in_ok-copy+in_ok-push w ↦
          formed_takes (λ x. not (is_seen ls x)) c.loop-listener.forms.items _ _ ls c.loop-listener.listener-index l c.loop-listener-test.true c.listener-item.is
          (first ∙ w.if-is_first.true)
          ((λ i. (w.forms-is i).items) ∙ w.in_ok-push.ensures.items ∙ (λ i. c.loop-listener.forms.items ++ (w.in_ok-copy.ensures ∙ w.form.ensures) i ∷ [])) c.loop-listener.invariant
      | else-is_first w ↦
          formed_leaves (λ x. not (is_seen ls x)) c.loop-listener.forms.items _ _ ls c.loop-listener.listener-index l c.loop-listener-test.true c.listener-item.is
          (first ∙ w.if-is_first.false) (λ i. (w.forms-is i).items) c.loop-listener.invariant
    ]
