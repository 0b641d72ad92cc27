use Rattle.rt_parts.specs.inside.Pairs.{HaveAll}
use Rattle.rt_parts.proofs.PairLaws.{HaveOnly}
use Rattle.rt_parts.proofs.entries.pairs_with.Given as goal

-- those of the entries so far
abbrev pub invariant-loop-at : goal.invariant-loop-at
invariant-loop-at l = record {
  all : HaveAll l.at l.numbers l.pairs.items;
  only : HaveOnly l.numbers l.pairs.items;
}
