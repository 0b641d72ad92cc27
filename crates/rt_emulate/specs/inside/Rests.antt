-- A file that is sent, piece by piece.
use Rattle.std.specs.Prelude.{◌≡◌, ◌==◌, ◌≤◌, ◌+◌, ◌-◌, ◌||◌, ℕ, min, List, length, Bool, Option, Some, None, if◌then◌else◌}
use Rattle.rt_emulate.specs.declared.site.TheConstants.{PIECE_BYTES}
use Rattle.rt_emulate.specs.Diaries.{IsBegun}

-- how many bytes are read next, where so many are left
abbrev pub piece_of : ℕ → ℕ
piece_of left = min left PIECE_BYTES

-- how many bytes of a file are sent behind its head, where some are: none where the head alone is asked for
abbrev pub left_for : Bool → ℕ → Option ℕ
left_for is_bare size = if is_bare || size == 0 then None else Some size

-- so many bytes of a file stand behind those before, no more than a piece has, and so many less of it are left: so a
-- file is sent with as many bytes as its head has said, or its connection ends
abbrev pub IsPiece : ℕ → List ℕ → ℕ → ℕ → List ℕ → Type 0
IsPiece left before count rest after =
    (count ≤ piece_of left) × (rest ≡ left - count) × (length after ≡ length before + count) × IsBegun before after
