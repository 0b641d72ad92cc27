use Rattle.std.proofs.Common.{◌≡◌, ◌++◌, Ok}
use Rattle.serde_json.specs.View.{members_view}
use Rattle.rt_http.specs.Asks.{entries_in}
use Rattle.rt_http.specs.Steps.{and_then}
use Rattle.rt_http.proofs.ask.entries.Given as goal

abbrev pub invariant-loop-name : goal.invariant-loop-name
invariant-loop-name l =
    entries_in l.fn.base (members_view l.fn.members.entries)
    ≡ and_then (entries_in l.fn.base (members_view l.name-iterator)) (λ rest. Ok (l.items.items ++ rest))
