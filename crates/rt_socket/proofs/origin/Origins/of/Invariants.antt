use Rattle.std.proofs.Common.{◌≡◌, ◌++◌, drop, map, string_bytes}
use Rattle.rt_socket.proofs.origin.Origins.of.Given as goal

abbrev pub invariant-loop-one : goal.invariant-loop-one
invariant-loop-one l =
    map string_bytes l.allowed ≡ map string_bytes l.all.items ++ map string_bytes (drop l.one-index l.allowed)
