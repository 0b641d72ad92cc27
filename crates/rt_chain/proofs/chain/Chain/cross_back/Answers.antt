use Rattle.std.proofs.Common.{◌≡◌, [], ◌-◌, Some, None, false, arith, refl, rules, subst, sym, ◌∙◌}
use Rattle.rt_chain.specs.inside.Halves.{IsCut}
use Rattle.rt_chain.proofs.Steps.{back_step, count_back, if_none, nothing_last}
use Rattle.rt_chain.proofs.chain.Chain.cross_back.Goals as goal

pub returns-in_err-slot-clause-none : goal.returns-in_err-slot-clause-none
returns-in_err-slot-clause-none g c =
    let a = subst (IsCut g.K.Ord.cmp c.self.inside.places.entries c.self.inside.nodes c.self.inside.last c.self.inside.first c.self.inside.count) c.self.view_is c.self.invariant in
    let none : c.self.inside.last ≡ None = search rules in
    if_none (c.args.self.now.front ≡ []) c.from_residual.result (nothing_last c.args.self.now.front (sym a.last_is ∙ none))

pub invariant_of-self : goal.invariant_of-self
invariant_of-self g c =
    let a = subst (IsCut g.K.Ord.cmp c.self.inside.places.entries c.self.inside.nodes c.self.inside.last c.self.inside.first c.self.inside.count) c.self.view_is c.self.invariant in
    let is : c.self.inside.last ≡ Some c.in_ok-slot.slot = search rules in
    (back_step a c.in_ok-slot.slot false c.set_mark.new.nodes c.set_mark.ensures.written c.set_mark.ensures.others refl is c.previous_of-self-inside.result c.previous_of-self-inside.ensures (c.self.inside.count - 1) (omega (arith, count_back a c.in_ok-slot.slot is))).0

pub returns-clause-crosses : goal.returns-clause-crosses
returns-clause-crosses g c =
    let a = subst (IsCut g.K.Ord.cmp c.self.inside.places.entries c.self.inside.nodes c.self.inside.last c.self.inside.first c.self.inside.count) c.self.view_is c.self.invariant in
    let is : c.self.inside.last ≡ Some c.in_ok-slot.slot = search rules in
    (back_step a c.in_ok-slot.slot false c.set_mark.new.nodes c.set_mark.ensures.written c.set_mark.ensures.others refl is c.previous_of-self-inside.result c.previous_of-self-inside.ensures (c.self.inside.count - 1) (omega (arith, count_back a c.in_ok-slot.slot is))).1
