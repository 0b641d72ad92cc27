use Rattle.std.proofs.Common.{◌≡◌}
use Rattle.serde_json.specs.View.{members_view}
use Rattle.rt_hub.specs.Refusing.{trees_wrong}
use Rattle.rt_hub.proofs.refusal.trees_wrong.Given as goal

abbrev pub invariant-loop-value : goal.invariant-loop-value
invariant-loop-value l = trees_wrong (members_view l.members.entries) ≡ trees_wrong (members_view l.value-iterator)
