use Rattle.std.proofs.Common.{◌≡◌, ◌++◌, drop}
use Rattle.rt_sync.specs.inside.Parts.{unlistens_of}
use Rattle.rt_sync.proofs.state.send_unlistens.Given as goal

-- with the messages of what is left it is all
abbrev pub invariant-loop-tag : goal.invariant-loop-tag
invariant-loop-tag l =
    l.outgoing.items ++ unlistens_of (drop l.tag-index l.tags) ≡ l.initial.outgoing.items ++ unlistens_of l.tags
