use Rattle.std.proofs.Common.{◌≡◌, ◌++◌, drop, Ok}
use Rattle.rt_lines.specs.Reading.{and_then, parts_read}
use Rattle.rt_lines.specs.inside.FormView.{as_parts}
use Rattle.rt_lines.proofs.words.parts_read.Given as goal

abbrev pub invariant-loop-part : goal.invariant-loop-part
invariant-loop-part l = parts_read (as_parts l.words) ≡ and_then (parts_read (as_parts (drop l.part-index l.words))) (λ rest. Ok (l.parts.items ++ rest))
