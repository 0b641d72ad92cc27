use Rattle.std.proofs.Common.{◌≡◌, ◌++◌, true, subst, sym, ap, ◌∙◌}
use Rattle.std.specs.List.{list_any}
use Rattle.rt_forms.specs.Forms.{Forms, IsHeardUnder}
use Rattle.rt_forms.specs.inside.FormsView.{all_under}
use Rattle.rt_forms.proofs.GatherLaws.{under_each, under_only}
use Rattle.rt_forms.proofs.forms.Forms.numbers_under.Goals as goal

pub returns-clause-each : goal.returns-clause-each
returns-clause-each c query test above heard =
    let all : c.gather_under.new.numbers.items ≡ all_under c.args.self.now c.args.path.now = c.in_ok-gather_under.ensures ∙ ap (λ ns. ns ++ all_under c.args.self.now c.args.path.now) c.new-numbers.ensures.items in
    ap (list_any test) all ∙ under_each c.args.self.now c.args.path.now query test above heard

pub returns-clause-only : goal.returns-clause-only
returns-clause-only c test heard =
    let all : c.gather_under.new.numbers.items ≡ all_under c.args.self.now c.args.path.now = c.in_ok-gather_under.ensures ∙ ap (λ ns. ns ++ all_under c.args.self.now c.args.path.now) c.new-numbers.ensures.items in
    let a : Forms = record { top = c.self.inside.top; nodes = c.self.inside.nodes; first = c.self.inside.first } in
    subst (λ (x : Forms). list_any test (all_under x c.args.path.now) ≡ true → IsHeardUnder x c.args.path.now test) c.self.view_is
    (under_only a c.self.invariant c.args.path.now test) (sym (ap (list_any test) all) ∙ heard)
