-- One step behind another.
use Rattle.std.specs.Prelude.{Result, Ok, Err}

-- the next step on what the first gives, if it gives anything
abbrev pub and_then : {A B E : Type 0} → Result A E → (A → Result B E) → Result B E
and_then (Ok a) next = next a
and_then (Err e) next = Err e
