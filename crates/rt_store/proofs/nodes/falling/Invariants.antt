use Rattle.std.specs.Prelude.{◌≡◌, ◌++◌, map}
use Rattle.rt_store.specs.inside.Growing.{seen}
use Rattle.rt_store.proofs.nodes.falling.Given as goal

abbrev pub invariant-loop-key : goal.invariant-loop-key
invariant-loop-key l = l.children.entries ≡ map seen l.found.items ++ l.key-iterator
