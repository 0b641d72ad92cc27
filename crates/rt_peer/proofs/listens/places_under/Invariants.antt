use Rattle.std.proofs.Common.{◌≡◌}
use Rattle.std.specs.List.{All}
use Rattle.std.specs.List.Sorted.{IsStrictlySortedBy}
use Rattle.rt_peer.specs.declared.actions.ActionKey.{ActionKey}
use Rattle.rt_peer.specs.inside.EntrySpots.{entry_spot_cmp}
use Rattle.rt_peer.proofs.EntrySpotLaws.{ListsAll, NotInFront}
use Rattle.rt_peer.proofs.listens.places_under.Given as goal

-- those that are left rise, and none is in front of the first there can be; who lists theirs beside these lists all
abbrev pub invariant-loop-spot : goal.invariant-loop-spot
invariant-loop-spot l = record {
  rising : IsStrictlySortedBy entry_spot_cmp l.spot-iterator;
  behind : All (NotInFront l.connection l.path) l.spot-iterator;
  own : All (λ (p : ActionKey). p.connection ≡ l.connection) l.places.keys;
  lists : ListsAll l.connection l.path l.spots.keys l.spot-iterator l.places.keys;
}
