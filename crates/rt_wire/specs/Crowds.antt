-- How much a text may hold, counted without reading it.
use Rattle.std.specs.Prelude.{ℕ, ◌+◌, ◌==◌, ◌||◌, Bool, true, false, List, [], ◌∷◌, nat_lt, if◌then◌else◌}
use Rattle.rt_wire.specs.declared.limits.TextState.{TextState}
use Rattle.rt_wire.specs.declared.limits.TextState.TheVariants.{Outside, Inside, Escaped}
use Rattle.rt_wire.specs.declared.limits.TheConstants.{MAX_MARKS}

-- where what follows a byte of JSON stands: behind a quote (34) a text begins or ends, and behind a
-- backslash (92) in a text a byte stands for itself
abbrev pub place_behind : TextState → ℕ → TextState
place_behind Outside byte = if byte == 34 then Inside else Outside
place_behind Inside byte = if byte == 34 then Outside else if byte == 92 then Escaped else Inside
place_behind Escaped byte = Inside

-- whether a byte is a comma (44) or an opening bracket (91, 123) outside of texts
abbrev pub is_mark : TextState → ℕ → Bool
is_mark Outside byte = byte == 44 || byte == 91 || byte == 123
is_mark Inside byte = false
is_mark Escaped byte = false

-- how many such bytes there are among those that begin at a place
abbrev pub marks : TextState → List ℕ → ℕ
marks place [] = 0
marks place (byte ∷ bytes) =
    (if is_mark place byte then 1 else 0) + marks (place_behind place byte) bytes

-- whether a text has more of them than a message may
abbrev pub is_crowded : List ℕ → Bool
is_crowded text = nat_lt MAX_MARKS (marks Outside text)
