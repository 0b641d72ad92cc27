use Rattle.std.proofs.Common.{subst}
use Rattle.rt_chain.specs.inside.Halves.{IsCut}
use Rattle.rt_chain.proofs.chain.Chain.first_behind.Goals as goal

pub returns : goal.returns
returns g c =
    let a = subst (IsCut g.K.Ord.cmp c.self.inside.places.entries c.self.inside.nodes c.self.inside.last c.self.inside.first c.self.inside.count) c.self.view_is c.self.invariant in
    a.first_is
