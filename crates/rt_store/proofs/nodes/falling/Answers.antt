use Rattle.std.proofs.Common.{rules}
use Rattle.std.proofs.lemmas.Fn.{always_returns_same}
use Rattle.rt_store.proofs.Falling.{falls_before, falling_ranks, fallen}
use Rattle.rt_store.proofs.nodes.falling.Goals as goal

pub returns : goal.returns
returns c =
    fallen c.args.children.now.entries c.loop-key.found.items c.sort_unstable_by.new.self.items c.loop-key.key-iterator c.requires c.loop-key.invariant (search rules)
    c.sort_unstable_by.ensures.permutation
    (c.sort_unstable_by.ensures.sorted falls_before falling_ranks (always_returns_same _ _ _ (λ a r f' h. search rules)))
