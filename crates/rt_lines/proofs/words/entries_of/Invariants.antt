use Rattle.std.proofs.Common.{◌≡◌, ◌++◌, Ok}
use Rattle.serde_json.specs.View.{members_view}
use Rattle.rt_lines.specs.Reading.{entries_in, and_then}
use Rattle.rt_lines.proofs.words.entries_of.Given as goal

abbrev pub invariant-loop-name : goal.invariant-loop-name
invariant-loop-name l = entries_in (members_view l.members.entries) ≡ and_then (entries_in (members_view l.name-iterator)) (λ rest. Ok (l.items.items ++ rest))
