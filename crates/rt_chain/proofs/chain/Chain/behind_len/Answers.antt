use Rattle.std.proofs.Common.{length, length-append, ap, arith, subst}
use Rattle.rt_chain.specs.Chains.{all_in}
use Rattle.rt_chain.specs.inside.Halves.{IsCut}
use Rattle.rt_chain.proofs.Entries.{places-length}
use Rattle.rt_chain.proofs.chain.Chain.behind_len.Goals as goal

pub returns : goal.returns
returns g c =
    let a = subst (IsCut g.K.Ord.cmp c.self.inside.places.entries c.self.inside.nodes c.self.inside.last c.self.inside.first c.self.inside.count) c.self.view_is c.self.invariant in
    omega (arith, c.len.ensures, ap (λ es. length es) a.all.places_are, places-length (all_in c.args.self.now), length-append c.args.self.now.front c.args.self.now.behind, a.count_is)
