use Rattle.std.proofs.Common.{◌≡◌, drop, map}
use Rattle.httparse.specs.Borrowed.{header_parts}
use Rattle.rt_http.specs.Fields.{is_there}
use Rattle.rt_http.proofs.head.is_there.Given as goal

abbrev pub invariant-loop-field : goal.invariant-loop-field
invariant-loop-field l =
    is_there l.name (map header_parts l.fields)
    ≡ is_there l.name (map header_parts (drop l.field-index l.fields))
