use Rattle.serde_json.specs.View.{members_view}
use Rattle.rt_tree.proofs.Writings.{Writing}
use Rattle.rt_tree.proofs.tree.text.+value.Given as goal

abbrev pub invariant-members_of-loop-key : goal.invariant-members_of-loop-key
invariant-members_of-loop-key l = Writing l.initial.key-iterator (members_view l.members.entries) l.key-iterator
