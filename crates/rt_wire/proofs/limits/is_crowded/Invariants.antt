use Rattle.std.proofs.Common.{◌≡◌, ◌+◌, drop}
use Rattle.rt_wire.specs.Crowds.{marks}
use Rattle.rt_wire.specs.declared.limits.TextState.TheVariants.{Outside}
use Rattle.rt_wire.specs.declared.limits.TheConstants.{MAX_MARKS}
use Rattle.rt_wire.proofs.limits.is_crowded.Given as goal

abbrev pub invariant-loop-byte : goal.invariant-loop-byte
invariant-loop-byte l =
    marks Outside l.text + l.left ≡ MAX_MARKS + marks l.place (drop l.byte-index l.text)
