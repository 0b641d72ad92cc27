use Rattle.std.proofs.Common.{◌≡◌, ◌++◌, drop}
use Rattle.rt_http.proofs.ask.push_keys.Given as goal

abbrev pub invariant-loop-key : goal.invariant-loop-key
invariant-loop-key l =
    l.keys.items ++ drop l.key-index l.more ≡ l.initial.keys.items ++ l.more
