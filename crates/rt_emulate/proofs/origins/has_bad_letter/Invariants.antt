use Rattle.std.proofs.Common.{◌≡◌, drop}
use Rattle.std.specs.List.{list_any}
use Rattle.rt_emulate.specs.Origins.{is_no_host_letter}
use Rattle.rt_emulate.proofs.origins.has_bad_letter.Given as goal

abbrev pub invariant-loop-byte : goal.invariant-loop-byte
invariant-loop-byte l = list_any is_no_host_letter l.place ≡ list_any is_no_host_letter (drop l.byte-index l.place)
