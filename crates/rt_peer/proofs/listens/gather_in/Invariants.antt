use Rattle.std.specs.List.{All}
use Rattle.std.specs.List.Sorted.{IsStrictlySortedBy}
use Rattle.rt_peer.specs.inside.Spots.{spot_cmp, AreKept}
use Rattle.rt_peer.proofs.SpotLaws.{FindsAll, NotBefore}
use Rattle.rt_peer.proofs.listens.gather_in.Given as goal

abbrev pub invariant-loop-spot : goal.invariant-loop-spot
invariant-loop-spot l = record {
  kept : AreKept l.fn.found.keys l.found.keys;
  rising : IsStrictlySortedBy spot_cmp l.spot-iterator;
  behind : All (NotBefore l.path) l.spot-iterator;
  finds : FindsAll l.path l.below l.spots.keys l.spot-iterator l.found.keys;
}
