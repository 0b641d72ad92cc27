use Rattle.std.proofs.Common.{◌≡◌, ◌++◌, ℕ, drop, map}
use Rattle.rt_parts.proofs.entries.push_each.Given as goal

-- the pairs so far, and those of the numbers that are left
abbrev pub invariant-loop-number : goal.invariant-loop-number
invariant-loop-number l =
    l.pairs.items ++ map (λ (n : ℕ). (n, l.entry)) (drop l.number-index l.numbers) ≡ l.initial.pairs.items ++ map (λ (n : ℕ). (n, l.entry)) l.numbers
