-- How a link counts what its runs have passed over.
use Rattle.std.specs.Prelude.{ℕ, ◌+◌, min}

-- a count of 64 bits and so many more, as far as it goes
abbrev pub counted : ℕ → ℕ → ℕ
counted count more = min (count + more) 18446744073709551615
