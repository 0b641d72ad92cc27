-- The close that a server sends (RFC 6455, sections 5.2 and 5.5.1).
use Rattle.std.specs.Prelude.{ℕ, ◌/◌, ◌%◌, List, [], ◌∷◌}

-- one whole frame, which is a close of two bytes, not masked: the code, its high byte first
abbrev pub close_frame : ℕ → List ℕ
close_frame code = 136 ∷ 2 ∷ (code / 256) ∷ (code % 256) ∷ []
