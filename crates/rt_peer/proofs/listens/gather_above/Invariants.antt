use Rattle.rt_peer.specs.inside.Spots.{AreFound, AreKept}
use Rattle.rt_peer.proofs.SpotLaws.{is_shorter}
use Rattle.rt_peer.proofs.listens.gather_above.Given as goal

abbrev pub invariant-loop-count : goal.invariant-loop-count
invariant-loop-count l = record {
  kept : AreKept l.fn.found.keys l.found.keys;
  shorter : AreFound (is_shorter l.path l.count) l.spots.keys l.found.keys;
}
