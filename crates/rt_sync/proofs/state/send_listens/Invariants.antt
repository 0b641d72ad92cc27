use Rattle.std.proofs.Common.{◌≡◌, ◌++◌}
use Rattle.std.specs.Vec.Iter.{into_iter_items}
use Rattle.rt_sync.specs.inside.Parts.{listens_shown}
use Rattle.rt_sync.proofs.state.send_listens.Given as goal

-- with the messages of what is left it is all
abbrev pub invariant-loop-listen : goal.invariant-loop-listen
invariant-loop-listen l =
    l.outgoing.items ++ listens_shown (into_iter_items l.listen-iterator) ≡ l.initial.outgoing.items ++ listens_shown l.fn.kept.items
