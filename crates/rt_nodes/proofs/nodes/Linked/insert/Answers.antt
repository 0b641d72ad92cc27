use Rattle.rt_nodes.proofs.Ranked.{ranked_more, ranked_undone}
use Rattle.rt_nodes.proofs.nodes.Linked.insert.Goals as goal

pub invariant_of-self-in-Err : goal.invariant_of-self-in-Err
invariant_of-self-in-Err g c =
    ranked_undone c.self.inside.nodes c.insert.new.self c.try_remove.new.self c.self.inside.ranks c.add.new.self c.in_ok-index.index _ c.in_ok-index.ensures.was_vacant
    c.in_ok-index.ensures.updates c.try_remove.ensures.updates c.in-Err.ensures.err c.self.invariant

pub invariant_of-self-in_default : goal.invariant_of-self-in_default
invariant_of-self-in_default g c =
    ranked_more c.self.inside.nodes c.insert.new.self c.self.inside.ranks c.add.new.self c.in_ok-index.index _ c.in_ok-index.ensures.was_vacant
    c.in_ok-index.ensures.updates c.in_default.ensures.ok c.self.invariant
