use Rattle.std.proofs.Common.{◌≡◌, ◌++◌, drop, nat_lt, not}
use Rattle.std.specs.List.{filter}
use Rattle.rt_peer.proofs.connections.with_number.Given as goal

abbrev pub invariant-loop-known : goal.invariant-loop-known
invariant-loop-known l =
    record {
      front :
          l.all.items ++ filter (λ m. not (nat_lt l.number m)) (drop l.known-index l.numbers)
          ≡ filter (λ m. not (nat_lt l.number m)) l.numbers;
      behind :
          l.behind.items ++ filter (nat_lt l.number) (drop l.known-index l.numbers)
          ≡ filter (nat_lt l.number) l.numbers;
    }
