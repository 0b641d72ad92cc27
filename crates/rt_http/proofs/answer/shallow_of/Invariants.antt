use Rattle.std.proofs.Common.{◌≡◌}
use Rattle.std.specs.List.{fold}
use Rattle.rt_tree.specs.Trees.{children_of, null}
use Rattle.rt_http.specs.Shallow.{with_true}
use Rattle.rt_http.proofs.answer.shallow_of.Given as goal

abbrev pub invariant-loop-key : goal.invariant-loop-key
invariant-loop-key l = fold with_true l.shallow l.key-iterator ≡ fold with_true null (children_of l.tree)
