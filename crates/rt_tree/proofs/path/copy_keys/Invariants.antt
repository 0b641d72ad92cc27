use Rattle.std.proofs.Common.{◌≡◌, take}
use Rattle.std.specs.List.{AllByRecursion}
use Rattle.rt_tree.specs.Key.{IsKey}
use Rattle.rt_tree.proofs.path.copy_keys.Given as goal

abbrev pub invariant-loop-key : goal.invariant-loop-key
invariant-loop-key l =
    (l.copies.items ≡ take l.key-index l.keys) × AllByRecursion IsKey (take l.key-index l.keys)
