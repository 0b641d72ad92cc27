use Rattle.std.proofs.Common.{◌≡◌, None, Some, sym, rules, ◌∙◌}
use Rattle.rt_view.proofs.KnownLaws.{ahead_all, ahead_crosses, empty_behind, no_first}
use Rattle.rt_view.proofs.window.go_ahead.Goals as goal

pub returns-in_default-clause-crosses : goal.returns-in_default-clause-crosses
returns-in_default-clause-crosses c from marks =
    let is : c.first_behind.result ≡ None = search rules in
    empty_behind c.args.chain.now (no_first c.args.chain.now (sym is ∙ c.first_behind.ensures))

pub returns-clause-all : goal.returns-clause-all
returns-clause-all c = ahead_all c.args.chain.now c.cross_ahead-slot.new.self c.cross_ahead-slot.result c.cross_ahead-slot.ensures.crosses c.cross_ahead-slot.ensures.same

pub returns-clause-crosses : goal.returns-clause-crosses
returns-clause-crosses c from marks =
    let is : c.first_behind.result ≡ Some c.in-Some.slot = search rules in
    ahead_crosses from c.args.chain.now c.cross_ahead-slot.new.self c.cross_ahead-slot.result c.cross_ahead-slot.ensures.crosses c.cross_ahead-slot.ensures.none marks
    c.in-Some.slot (sym is ∙ c.first_behind.ensures) c.in_ok-child.child c.in_ok-child.ensures
