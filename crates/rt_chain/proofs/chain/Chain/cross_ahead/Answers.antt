use Rattle.std.proofs.Common.{◌≡◌, [], ◌+◌, Some, None, true, refl, rules, subst, sym, ◌∙◌}
use Rattle.rt_chain.specs.inside.Halves.{IsCut}
use Rattle.rt_chain.proofs.Steps.{ahead_step, if_none, nothing_first}
use Rattle.rt_chain.proofs.chain.Chain.cross_ahead.Goals as goal

pub returns-in_err-slot-clause-none : goal.returns-in_err-slot-clause-none
returns-in_err-slot-clause-none g c =
    let a = subst (IsCut g.K.Ord.cmp c.self.inside.places.entries c.self.inside.nodes c.self.inside.last c.self.inside.first c.self.inside.count) c.self.view_is c.self.invariant in
    let none : c.self.inside.first ≡ None = search rules in
    if_none (c.args.self.now.behind ≡ []) c.from_residual.result (nothing_first c.args.self.now.behind (sym a.first_is ∙ none))

pub invariant_of-self : goal.invariant_of-self
invariant_of-self g c =
    let a = subst (IsCut g.K.Ord.cmp c.self.inside.places.entries c.self.inside.nodes c.self.inside.last c.self.inside.first c.self.inside.count) c.self.view_is c.self.invariant in
    let is : c.self.inside.first ≡ Some c.in_ok-slot.slot = search rules in
    (ahead_step a c.in_ok-slot.slot true c.set_mark.new.nodes c.set_mark.ensures.written c.set_mark.ensures.others refl is c.next_of-self-inside.result c.next_of-self-inside.ensures (c.self.inside.count + 1) (refl)).0

pub returns-clause-crosses : goal.returns-clause-crosses
returns-clause-crosses g c =
    let a = subst (IsCut g.K.Ord.cmp c.self.inside.places.entries c.self.inside.nodes c.self.inside.last c.self.inside.first c.self.inside.count) c.self.view_is c.self.invariant in
    let is : c.self.inside.first ≡ Some c.in_ok-slot.slot = search rules in
    (ahead_step a c.in_ok-slot.slot true c.set_mark.new.nodes c.set_mark.ensures.written c.set_mark.ensures.others refl is c.next_of-self-inside.result c.next_of-self-inside.ensures (c.self.inside.count + 1) (refl)).1
