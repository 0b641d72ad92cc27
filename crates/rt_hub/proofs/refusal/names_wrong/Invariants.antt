use Rattle.std.proofs.Common.{◌≡◌}
use Rattle.serde_json.specs.View.{members_view}
use Rattle.rt_hub.specs.Refusing.{names_wrong}
use Rattle.rt_hub.proofs.refusal.names_wrong.Given as goal

abbrev pub invariant-loop-name : goal.invariant-loop-name
invariant-loop-name l = names_wrong (members_view l.members.entries) ≡ names_wrong (members_view l.name-iterator)
