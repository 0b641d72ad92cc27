use Rattle.std.proofs.Common.{get_or}
use Rattle.std.proofs.lemmas.Result.{on_ok_weaker}
use Rattle.rt_peer.specs.declared.listens.ListenKey.{ListenKey}
use Rattle.rt_peer.specs.inside.Spots.{has_owner}
use Rattle.rt_peer.proofs.write.note_entry.Goals as goal

pub returns : goal.returns
returns c =
    on_ok_weaker c.note_each.result (λ noted. λ k d lt.
    let s : ListenKey = get_or c.args.spots.now.keys k d in
    (has_owner c.gather.new.found.keys s.owner, (c.in_ok-gather.ensures.found k d lt, noted s.owner))) c.note_each.ensures
