use Rattle.rt_peer.specs.inside.EntrySpots.{AreSpotsKept}
use Rattle.rt_peer.proofs.EntrySpotLaws.{AreFirstPut}
use Rattle.rt_peer.proofs.listens.put_spots.Given as goal

-- what was there is there, and the spots of the first entries
abbrev pub invariant-loop-entry : goal.invariant-loop-entry
invariant-loop-entry l = record {
  kept : AreSpotsKept l.initial.spots.keys l.spots.keys;
  put : AreFirstPut l.spots.keys l.place l.entry-items l.entry-index;
}
