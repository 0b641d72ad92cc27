use Rattle.std.proofs.Common.{◌≡◌, drop}
use Rattle.rt_parts.specs.inside.Unknown.{without_children}
use Rattle.rt_parts.proofs.views.known_alone.Given as goal

-- what is left to take out
abbrev pub invariant-loop-key : goal.invariant-loop-key
invariant-loop-key l = without_children l.initial.known l.key-items ≡ without_children l.known (drop l.key-index l.key-items)
