use Rattle.std.proofs.Common.{◌≡◌, ◌++◌, drop}
use Rattle.rt_hub.specs.Hubs.{receivers}
use Rattle.rt_hub.proofs.calls.receivers_of.Given as goal

abbrev pub invariant-loop-one : goal.invariant-loop-one
invariant-loop-one l = l.all.items ++ receivers (drop l.one-index l.sent) ≡ receivers l.sent
