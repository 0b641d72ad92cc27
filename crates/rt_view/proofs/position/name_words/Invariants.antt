use Rattle.std.proofs.Common.{drop}
use Rattle.rt_view.specs.inside.ViewIndex.{NameWords}
use Rattle.rt_view.proofs.position.name_words.Given as goal

abbrev pub invariant-loop-key : goal.invariant-loop-key
invariant-loop-key l = NameWords (drop l.key-index l.named) → NameWords l.named
