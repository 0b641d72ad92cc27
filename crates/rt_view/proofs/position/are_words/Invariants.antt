use Rattle.rt_view.specs.inside.ViewIndex.{AreWords}
use Rattle.rt_view.proofs.position.are_words.Given as goal

abbrev pub invariant-loop-key : goal.invariant-loop-key
invariant-loop-key l = AreWords l.key-iterator → AreWords l.children.entries
