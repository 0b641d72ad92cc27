use Rattle.std.proofs.Common.{◌≡◌, ◌∙◌, sym, ap, subst, Some, rules}
use Rattle.std.specs.Option.{IfSome, option_map}
use Rattle.rt_sync.specs.inside.StateView.{held_of}
use Rattle.rt_sync.specs.inside.States.{HoldsWell}
use Rattle.rt_sync.proofs.GoodWorlds.{Laws, applied, applied_counts, applied_reads, well_after}
use Rattle.rt_sync.proofs.Core.apply.Goals as goal

pub after-requires : goal.after-requires
after-requires c =
    let there : c.self.inside.state ≡ Some c.in-Some.state = search rules in
    subst (λ o. IfSome o HoldsWell) there c.self.invariant

pub invariant_of-self-in-Ok : goal.invariant_of-self-in-Ok
invariant_of-self-in-Ok c =
    let there : c.self.inside.state ≡ Some c.in-Some.state = search rules in
    let laws : Laws = record {
      refused = c.answer_law.ensures.refused;
      stale = c.answer_law.ensures.stale;
      made = c.answer_law.ensures.made;
      steady = c.steady_law.ensures.next;
      within = c.holding_law.ensures.within;
    } in
    well_after c.in-Some.state c.args.step c.after.new.self c.in-Ok.answer c.in-Ok.ensures.made laws (subst (λ o. IfSome o HoldsWell) there c.self.invariant)

pub returns-in-Ok-clause-made : goal.returns-in-Ok-clause-made
returns-in-Ok-clause-made c =
    let there : c.self.inside.state ≡ Some c.in-Some.state = search rules in
    applied c.in-Some.state c.args.step c.after.new.self c.in-Ok.answer c.in-Ok.ensures.made c.args.self.now (ap (option_map held_of) (sym there) ∙ c.self.view_is)

pub returns-in-Ok-clause-reads : goal.returns-in-Ok-clause-reads
returns-in-Ok-clause-reads c =
    let there : c.self.inside.state ≡ Some c.in-Some.state = search rules in
    applied_reads c.in-Some.state c.args.step c.after.new.self c.in-Ok.answer c.in-Ok.ensures.made c.args.self.now (ap (option_map held_of) (sym there) ∙ c.self.view_is)

pub returns-in-Ok-clause-counts : goal.returns-in-Ok-clause-counts
returns-in-Ok-clause-counts c =
    let there : c.self.inside.state ≡ Some c.in-Some.state = search rules in
    applied_counts c.in-Some.state c.args.step c.after.new.self c.in-Ok.answer c.in-Ok.ensures.made c.args.self.now (ap (option_map held_of) (sym there) ∙ c.self.view_is)
