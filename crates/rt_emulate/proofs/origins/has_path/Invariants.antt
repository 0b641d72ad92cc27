use Rattle.std.proofs.Common.{◌≡◌, drop}
use Rattle.std.specs.List.{list_any}
use Rattle.rt_emulate.specs.Origins.{begins_path}
use Rattle.rt_emulate.proofs.origins.has_path.Given as goal

abbrev pub invariant-loop-byte : goal.invariant-loop-byte
invariant-loop-byte l = list_any begins_path l.place ≡ list_any begins_path (drop l.byte-index l.place)
