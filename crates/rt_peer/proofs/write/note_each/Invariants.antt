use Rattle.std.proofs.Common.{◌≡◌, ◌++◌}
use Rattle.std.specs.List.Sorted.{IsStrictlySortedBy}
use Rattle.rt_peer.specs.declared.listens.Owner.{Owner}
use Rattle.rt_peer.specs.inside.Met.{numbers_of}
use Rattle.rt_peer.specs.inside.Spots.{has_owner, owner_cmp}
use Rattle.rt_peer.proofs.MetLaws.{one_if}
use Rattle.rt_peer.proofs.write.note_each.Given as goal

-- those that are left rise, and with a number for each of them all have one
abbrev pub invariant-loop-owner : goal.invariant-loop-owner
invariant-loop-owner l = record {
  rising : IsStrictlySortedBy owner_cmp l.owner-iterator;
  noted : (o : Owner) → numbers_of l.met.entries o ++ one_if (has_owner l.owner-iterator o) l.number
      ≡ numbers_of l.fn.met.entries o ++ one_if (has_owner l.owners.keys o) l.number;
}
