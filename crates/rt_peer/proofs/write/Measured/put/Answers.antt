use Rattle.std.proofs.Common.{sym, ◌∙◌}
use Rattle.rt_tree.specs.PathTree.{put}
use Rattle.rt_peer.proofs.TextLengths.{differs-put}
use Rattle.rt_peer.proofs.write.Measured.put.Goals as goal

pub changed-self-inside-requires-clause-put : goal.changed-self-inside-requires-clause-put
changed-self-inside-requires-clause-put c =
    differs-put c.in_ok-before.before c.put_entry.new.tree c.keys.result.now c.args.entry.now
    (c.in_ok-put_entry.ensures.ok
    ∙ (λ i. put (sym c.in_ok-before.ensures i) (sym c.keys.ensures.keys i) c.args.entry.now))
