use Rattle.std.proofs.Common.{length, ap, subst, ◌∙◌}
use Rattle.rt_chain.specs.Chains.{all_in}
use Rattle.rt_chain.specs.inside.Halves.{IsCut}
use Rattle.rt_chain.proofs.Entries.{places-length}
use Rattle.rt_chain.proofs.chain.Chain.len.Goals as goal

pub returns-clause-len : goal.returns-clause-len
returns-clause-len g c =
    let a = subst (IsCut g.K.Ord.cmp c.self.inside.places.entries c.self.inside.nodes c.self.inside.last c.self.inside.first c.self.inside.count) c.self.view_is c.self.invariant in
    c.len.ensures.len ∙ ap (λ es. length es) a.all.places_are ∙ places-length (all_in c.args.self.now)

pub returns-clause-rises : goal.returns-clause-rises
returns-clause-rises g c =
    let a = subst (IsCut g.K.Ord.cmp c.self.inside.places.entries c.self.inside.nodes c.self.inside.last c.self.inside.first c.self.inside.count) c.self.view_is c.self.invariant in
    a.all.rises

pub returns-clause-apart : goal.returns-clause-apart
returns-clause-apart g c =
    let a = subst (IsCut g.K.Ord.cmp c.self.inside.places.entries c.self.inside.nodes c.self.inside.last c.self.inside.first c.self.inside.count) c.self.view_is c.self.invariant in
    a.all.linked.apart
