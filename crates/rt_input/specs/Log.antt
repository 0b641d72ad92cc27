-- The lines that a run tells of itself.
use Rattle.std.specs.Prelude.{ℕ, List, [], ◌∷◌, ◌++◌, codes}

-- a line as it is written
abbrev pub log_line : List ℕ → List ℕ
log_line line = codes "kaltewi: " ++ line ++ 10 ∷ []
