-- Bodies in chunks, by the grammar of HTTP/1.1.
use Rattle.std.specs.Prelude.{◌≡◌, ℕ, ◌+◌, ◌≤◌, ◌<◌, Bool, true, false, List, ◌++◌, All, length, drop, slice_range}
use Rattle.std.specs.List.{flat_map}
use Rattle.httparse.specs.Ascii.{crlf_bytes}
use Rattle.httparse.specs.Grammar.{ChunkLine, Field, IsChunkLine, IsField, LineEnd, chunk_size, print_chunk_line, print_section}
use Rattle.rt_http.specs.declared.request.Piece.{Piece}
use Rattle.rt_http.specs.declared.request.Piece.TheVariants.{More, Data, Last}

-- a chunk: its line, and its bytes
pub record Chunk : Type 0 where
  pub line : ChunkLine
  pub bytes : List ℕ

-- the line says how many bytes, at least one
pub record IsChunk (c : Chunk) : Type 0 where
  pub line : IsChunkLine c.line
  pub size : chunk_size c.line ≡ length c.bytes
  pub some : 0 < length c.bytes

-- the text of a chunk
abbrev pub print_chunk : Chunk → List ℕ
print_chunk c = print_chunk_line c.line ++ c.bytes ++ crlf_bytes

-- the end of a body: a line that says no bytes, and fields
pub record End : Type 0 where
  pub line : ChunkLine
  pub fields : List Field
  pub last : LineEnd

pub record IsEnd (e : End) : Type 0 where
  pub line : IsChunkLine e.line
  pub size : chunk_size e.line ≡ 0
  pub fields : All IsField e.fields

-- the text of the end
abbrev pub print_end : End → List ℕ
print_end e = print_chunk_line e.line ++ print_section e.fields e.last

-- the bytes are the end of a body, and then the rest
abbrev pub ReadsEnd : List ℕ → End → List ℕ → Type 0
ReadsEnd bytes e rest = IsEnd e × (bytes ≡ print_end e ++ rest)

-- the bytes that chunks bring
abbrev pub bytes_of : List Chunk → List ℕ
bytes_of chunks = flat_map (λ c. c.bytes) chunks

-- no chunk and no end stands at the front
pub record HasNoPiece (bytes : List ℕ) : Type 0 where
  pub chunk : (c : Chunk) (rest : List ℕ) → IsChunk c → ¬ (bytes ≡ print_chunk c ++ rest)
  pub end : (e : End) (rest : List ℕ) → ¬ (ReadsEnd bytes e rest)

-- what stands at the front
abbrev pub IsPieceAt : List ℕ → Piece → Type 0
IsPieceAt bytes More = HasNoPiece bytes
IsPieceAt bytes (Data start stop) =
    (start ≤ stop) × (stop + 2 ≤ length bytes)
    × ((c : Chunk) × IsChunk c × (bytes ≡ print_chunk c ++ drop (stop + 2) bytes)
    × (slice_range bytes start stop ≡ c.bytes))
IsPieceAt bytes (Last stop) = (stop ≤ length bytes) × ((e : End) × ReadsEnd bytes e (drop stop bytes))

-- the chunks at the front were read up to there: all that are whole, or all and the end behind them
abbrev pub IsReadTo : Bool → List ℕ → List Chunk → ℕ → Type 0
IsReadTo true bytes chunks size =
    (e : End) × IsEnd e × (bytes ≡ flat_map print_chunk chunks ++ (print_end e ++ drop size bytes))
IsReadTo false bytes chunks size =
    (bytes ≡ flat_map print_chunk chunks ++ drop size bytes) × HasNoPiece (drop size bytes)

-- what they bring stands behind the body before
abbrev pub AreRead : List ℕ → List ℕ → ℕ → Bool → List ℕ → Type 0
AreRead bytes before size whole after =
    (size ≤ length bytes)
    × ((chunks : List Chunk) × All IsChunk chunks × (after ≡ before ++ bytes_of chunks)
    × IsReadTo whole bytes chunks size)
