use Rattle.std.proofs.Common.{◌≡◌, None, Some, sym, rules, ◌∙◌}
use Rattle.rt_view.proofs.KnownLaws.{back_all, back_crosses, empty_front, no_last}
use Rattle.rt_view.proofs.window.go_back.Goals as goal

pub returns-in_default-clause-crosses : goal.returns-in_default-clause-crosses
returns-in_default-clause-crosses c from marks =
    let is : c.last_front.result ≡ None = search rules in
    empty_front c.args.chain.now (no_last c.args.chain.now (sym is ∙ c.last_front.ensures))

pub returns-clause-all : goal.returns-clause-all
returns-clause-all c = back_all c.args.chain.now c.cross_back-slot.new.self c.cross_back-slot.result c.cross_back-slot.ensures.crosses c.cross_back-slot.ensures.same

pub returns-clause-crosses : goal.returns-clause-crosses
returns-clause-crosses c from marks =
    let is : c.last_front.result ≡ Some c.in-Some.slot = search rules in
    back_crosses from c.args.chain.now c.cross_back-slot.new.self c.cross_back-slot.result c.cross_back-slot.ensures.crosses c.cross_back-slot.ensures.none marks
    c.in-Some.slot (sym is ∙ c.last_front.ensures) c.in_ok-child.child c.in_ok-child.ensures
