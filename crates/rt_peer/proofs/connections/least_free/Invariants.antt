use Rattle.std.proofs.Common.{◌≡◌, ◌+◌, ◌≤◌, ◌==◌, drop, if◌then◌else◌}
use Rattle.std.specs.List.{fold}
use Rattle.rt_peer.specs.Peers.{least_free}
use Rattle.rt_peer.proofs.connections.least_free.Given as goal

abbrev pub invariant-loop-known : goal.invariant-loop-known
invariant-loop-known l =
    record {
      exact :
          fold (λ n m. if m == n then n + 1 else n) l.number (drop l.known-index l.numbers)
          ≡ least_free l.numbers;
      small : l.number ≤ l.known-index + 1;
    }
