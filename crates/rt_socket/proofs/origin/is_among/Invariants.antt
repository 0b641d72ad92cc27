use Rattle.std.proofs.Common.{◌≡◌, drop, map, string_bytes}
use Rattle.std.specs.List.{list_any}
use Rattle.std.specs.Str.{bytes_eq}
use Rattle.rt_socket.proofs.origin.is_among.Given as goal

abbrev pub invariant-loop-one : goal.invariant-loop-one
invariant-loop-one l =
    list_any (λ one. bytes_eq one l.origin) (map string_bytes l.allowed)
    ≡ list_any (λ one. bytes_eq one l.origin) (map string_bytes (drop l.one-index l.allowed))
