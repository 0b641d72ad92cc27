use Rattle.std.proofs.Common.{◌≡◌, drop}
use Rattle.std.specs.Char.{is_ascii_uppercase}
use Rattle.std.specs.List.{list_any}
use Rattle.rt_emulate.proofs.origins.has_upper_case.Given as goal

abbrev pub invariant-loop-byte : goal.invariant-loop-byte
invariant-loop-byte l = list_any is_ascii_uppercase l.origin ≡ list_any is_ascii_uppercase (drop l.byte-index l.origin)
