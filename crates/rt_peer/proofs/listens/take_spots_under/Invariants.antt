use Rattle.rt_peer.specs.inside.EntrySpots.{AreOthersKept}
use Rattle.rt_peer.proofs.listens.take_spots_under.Given as goal

abbrev pub invariant-loop-entry : goal.invariant-loop-entry
invariant-loop-entry l = AreOthersKept l.place l.path l.initial.spots.keys l.spots.keys
