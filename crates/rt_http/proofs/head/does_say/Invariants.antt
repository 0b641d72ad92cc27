use Rattle.std.proofs.Common.{◌≡◌, drop, map}
use Rattle.httparse.specs.Borrowed.{header_parts}
use Rattle.rt_http.specs.Fields.{does_say}
use Rattle.rt_http.proofs.head.does_say.Given as goal

abbrev pub invariant-loop-field : goal.invariant-loop-field
invariant-loop-field l =
    does_say l.name l.word (map header_parts l.fields)
    ≡ does_say l.name l.word (map header_parts (drop l.field-index l.fields))
