use Rattle.std.proofs.Common.{sym, ◌∙◌}
use Rattle.rt_nodes.proofs.Ranked.{ranked_fewer}
use Rattle.rt_nodes.proofs.nodes.Linked.remove.Goals as goal

pub invariant_of-self : goal.invariant_of-self
invariant_of-self g c =
    ranked_fewer c.self.inside.nodes c.try_remove.new.self c.self.inside.ranks c.remove.new.self c.args.index c.in-Some.slot (sym c.try_remove.ensures.value ∙ c.in-Some.is)
    c.try_remove.ensures.updates c.remove.ensures c.self.invariant
