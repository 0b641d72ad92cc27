use Rattle.std.proofs.Common.{◌≡◌, ◌++◌, take, drop}
use Rattle.rt_cache.specs.Runs.{AreAllowed, after_all, taken_all}
use Rattle.rt_cache.proofs.brought.Brought.run.Given as goal

-- the calls so far were made, what they tell is told, and the others may be made
abbrev pub invariant-loop-call : goal.invariant-loop-call
invariant-loop-call l =
    (l.self ≡ after_all l.initial.self (take l.call-index l.calls))
    × (l.taken.items ++ taken_all l.self (drop l.call-index l.calls) ≡ taken_all l.initial.self l.calls)
    × AreAllowed l.self (drop l.call-index l.calls)
