use Rattle.std.proofs.Common.{◌≡◌, ◌++◌, ℕ, drop, map}
use Rattle.rt_parts.proofs.entries.push_firsts.Given as goal

-- the numbers so far, and those of the pairs that are left
abbrev pub invariant-loop-pair : goal.invariant-loop-pair
invariant-loop-pair l =
    l.numbers.items ++ map (λ (o : ℕ × ℕ). o.0) (drop l.pair-index l.pairs) ≡ l.initial.numbers.items ++ map (λ (o : ℕ × ℕ). o.0) l.pairs
