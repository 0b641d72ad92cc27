-- What a reader and a writer count.
use Rattle.std.specs.Prelude.{◌≡◌, ℕ, ◌+◌, List, ◌++◌, Option, Result, MatchResult}
use Rattle.std.specs.Io.KnownBytes.{Appends}

-- as many bytes more as the call gave
abbrev pub CountsBytes : {E : Type 0} → Result ℕ E → ℕ → ℕ → Type 0
CountsBytes result old new = MatchResult result (λ n. new ≡ old + n) (λ _. new ≡ old)

-- one more failure where the call failed, and else none more
abbrev pub CountsFailure : {A E : Type 0} → Result A E → ℕ → ℕ → Type 0
CountsFailure result old new = MatchResult result (λ _. new ≡ old) (λ _. new ≡ old + 1)

-- known bytes grow by what a text begins with, which may be nothing or all of it
abbrev pub AppendsPart : Option (List ℕ) → Option (List ℕ) → List ℕ → Type 0
AppendsPart old new text =
    (part rest : List ℕ) × (text ≡ part ++ rest) × Appends old new part
