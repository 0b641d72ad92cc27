use Rattle.std.proofs.Common.{◌≡◌, ◌++◌, length}
use Rattle.std.specs.List.Sorted.{IsStrictlySortedBy}
use Rattle.std.specs.Map.{keys_of}
use Rattle.std.specs.Vec.Iter.{into_iter_items, into_iter_len}
use Rattle.rt_chain.specs.Chains.{all_in, entries_of}
use Rattle.rt_chain.specs.inside.Halves.{chain_of}
use Rattle.rt_chain.specs.inside.Made.{IsMade}
use Rattle.rt_chain.proofs.chain.Chain.from_sorted.Given as goal

abbrev pub invariant-loop-key : goal.invariant-loop-key
invariant-loop-key g l =
    (goal.iterator-loop-key g).can_next l.key-iterator × (goal.iterator-loop-key g).is_finite l.key-iterator
    × IsMade g.K.Ord.cmp l.front l.places.items l.nodes l.tail l.last l.first
    × (entries_of (all_in (chain_of l.places.items l.nodes)) ++ into_iter_items l.key-iterator ≡ into_iter_items l.initial.key-iterator)
    × IsStrictlySortedBy g.K.Ord.cmp (keys_of (into_iter_items l.initial.key-iterator))
    × (into_iter_len l.key-iterator ≡ length (into_iter_items l.key-iterator))
