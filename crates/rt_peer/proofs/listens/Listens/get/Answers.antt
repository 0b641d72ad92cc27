use Rattle.rt_peer.proofs.OwnedLaws.{found_none, found_one}
use Rattle.rt_peer.proofs.listens.Listens.get.Goals as goal

pub returns-clause-some : goal.returns-clause-some
returns-clause-some c =
    found_one c.args.owner.now c.self.inside.by_owner.entries c.args.self.now c.get.result c.self.invariant.0
    c.self.view_is c.get.ensures.value

pub returns-clause-none : goal.returns-clause-none
returns-clause-none c =
    found_none c.args.owner.now c.self.inside.by_owner.entries c.args.self.now c.get.result c.self.invariant.0
    c.self.view_is c.get.ensures.value
