use Rattle.std.proofs.Common.{◌≡◌, length, not}
use Rattle.std.specs.List.{filter}
use Rattle.rt_peer.specs.inside.Counts.{AreCountedBy}
use Rattle.rt_peer.specs.inside.Placed.{is_bare, whose, AllMarked, AreByPlace}
use Rattle.rt_peer.proofs.actions.drop_bare.Given as goal

-- in order, marked and counted; those that have entries are those of before
abbrev pub invariant-loop-place : goal.invariant-loop-place
invariant-loop-place l = record {
  order : AreByPlace l.by_place.entries;
  marked : AllMarked l.empty.keys l.by_place.entries;
  counted : AreCountedBy l.counts.entries l.by_place.entries whose;
  left : filter (λ e. not (is_bare e)) l.by_place.entries ≡ filter (λ e. not (is_bare e)) l.fn.by_place.entries;
}

abbrev pub decreases-loop-place : goal.decreases-loop-place
decreases-loop-place l = length l.empty.keys
