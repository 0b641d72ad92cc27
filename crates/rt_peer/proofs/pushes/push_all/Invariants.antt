use Rattle.std.proofs.Common.{◌≡◌, ◌++◌}
use Rattle.std.specs.List.{All, flat_map}
use Rattle.std.specs.Map.{keys_of}
use Rattle.rt_peer.specs.Pushes.{pushes}
use Rattle.rt_peer.specs.inside.Looked.{AreLooked}
use Rattle.rt_peer.specs.inside.Met.{IsHanded}
use Rattle.rt_peer.specs.inside.Watched.{AreHeard, AreLeft, AreTurned}
use Rattle.rt_peer.proofs.FoundLaws.{owned_pushes}
use Rattle.rt_peer.proofs.pushes.push_all.Given as goal

abbrev pub invariant-loop-owner : goal.invariant-loop-owner
invariant-loop-owner l = record {
  own : All (λ e. IsHanded l.entries e.0 e.1 l.listens) l.owner-iterator;
  sent : l.round.sent.items
      ++ flat_map (owned_pushes l.write.before l.write.after l.entries l.listens) (keys_of l.owner-iterator)
      ≡ pushes l.write.before l.write.after l.entries l.listens;
  looked : AreLooked l.write.before l.write.after l.round.looked.entries;
  turned : AreTurned l.write.before l.write.after l.round.looked.entries l.round.views;
  heard : AreHeard l.listens l.round.views;
  left : AreLeft l.entries (keys_of l.owner-iterator) l.listens l.round.looked.entries;
}
