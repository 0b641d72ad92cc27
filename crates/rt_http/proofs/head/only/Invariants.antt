use Rattle.std.proofs.Common.{◌≡◌, ◌++◌, map, drop, option_copied}
use Rattle.httparse.specs.Borrowed.{header_parts}
use Rattle.rt_http.specs.Fields.{values_of}
use Rattle.rt_http.proofs.Values.{as_list}
use Rattle.rt_http.proofs.head.only.Given as goal

abbrev pub invariant-loop-field : goal.invariant-loop-field
invariant-loop-field l =
    values_of l.name (map header_parts l.fields)
    ≡ as_list (option_copied l.found) ++ values_of l.name (map header_parts (drop l.field-index l.fields))
