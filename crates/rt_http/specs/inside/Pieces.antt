-- What a line of a chunk is followed by.
use Rattle.std.specs.Prelude.{◌≡◌, ℕ, ◌+◌, ◌≤◌, ◌<◌, List, ◌++◌, length, drop, slice_range}
use Rattle.httparse.specs.Ascii.{crlf_bytes}
use Rattle.httparse.specs.Grammar.{Field, HasNoSection, LineEnd, ReadsSection}
use Rattle.rt_http.specs.declared.request.Piece.{Piece}
use Rattle.rt_http.specs.declared.request.Piece.TheVariants.{More, Data, Last}

-- behind a line that says so many bytes
abbrev pub IsDataAt : List ℕ → ℕ → ℕ → Piece → Type 0
IsDataAt bytes start size More = length bytes < start + size + 2
IsDataAt bytes start size (Data from stop) =
    (from ≡ start) × (stop ≡ start + size) × (stop + 2 ≤ length bytes)
    × (drop start bytes ≡ slice_range bytes start stop ++ (crlf_bytes ++ drop (stop + 2) bytes))
IsDataAt bytes start size (Last stop) = ⊥

-- behind a line that says none
abbrev pub IsLastAt : List ℕ → ℕ → Piece → Type 0
IsLastAt bytes start More = HasNoSection (drop start bytes)
IsLastAt bytes start (Data from stop) = ⊥
IsLastAt bytes start (Last stop) =
    (start ≤ stop) × (stop ≤ length bytes)
    × ((fields : List Field) × (last : LineEnd) × ReadsSection (drop start bytes) fields last (drop stop bytes))
