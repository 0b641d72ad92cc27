-- Characters that a line shows, and those that a terminal obeys, as the prover computes them.
use Rattle.std.specs.Prelude.{◌≡◌, [], ◌∷◌, true, false, codes, map}
use Rattle.std.specs.List.{list_all, list_any}
use Rattle.rt_input.specs.Plains.{is_hidden, plain_of}

-- a line feed, escape, delete, the control sequence introducer of C1, the end of a line, overrides and isolates
abbrev pub HiddenOnes : Type 0
HiddenOnes =
    list_all is_hidden (10 ∷ 27 ∷ 127 ∷ 128 ∷ 155 ∷ 159 ∷ 0x61C ∷ 0x200E ∷ 0x2028 ∷ 0x202A ∷ 0x202E ∷ 0x2066 ∷ 0x2069 ∷ []) ≡ true

-- a blank, ~, a blank that doesn't break, é, the joiner of signs, 中, and a sign of two units of UTF-16
abbrev pub ShownOnes : Type 0
ShownOnes =
    list_any is_hidden (32 ∷ 126 ∷ 160 ∷ 233 ∷ 0x200D ∷ 0x202F ∷ 0x2065 ∷ 0x206A ∷ 0x4E2D ∷ 0x1F600 ∷ []) ≡ false

-- a letter, a line feed, the control sequence introducer, é, and an override
abbrev pub NumberedOnes : Type 0
NumberedOnes =
    map plain_of (97 ∷ 10 ∷ 155 ∷ 233 ∷ 0x202E ∷ [])
    ≡ codes "a" ∷ codes "\\u000a" ∷ codes "\\u009b" ∷ (195 ∷ 169 ∷ []) ∷ codes "\\u202e" ∷ []
