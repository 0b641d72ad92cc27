use Rattle.std.proofs.Common.{◌≡◌, ◌++◌, drop, map}
use Rattle.form_urlencoded.specs.Form.{plus_to_space}
use Rattle.rt_http.proofs.resource.spaced.Given as goal

abbrev pub invariant-loop-byte : goal.invariant-loop-byte
invariant-loop-byte l =
    l.spaced.items ++ map plus_to_space (drop l.byte-index l.bytes) ≡ map plus_to_space l.bytes
