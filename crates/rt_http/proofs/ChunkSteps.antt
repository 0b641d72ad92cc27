-- The pieces of a body in chunks, one after another.
use Rattle.std.proofs.Common.{rules, ◌≡◌, ℕ, Bool, true, false, take, ◌+◌, ◌-◌, ◌<◌, ◌≤◌, Result, Ok, Err, List, [], ◌∷◌, ◌++◌, length, drop, sym, ap, ap₂, ◌∙◌, subst, arith, append_assoc, append-nil, length-append, length-take, length-drop, drop-drop}
use Rattle.std.specs.List.{All, flat_map}
use Rattle.std.specs.Prelude.{IfOk, slice_range}
use Rattle.std.proofs.lemmas.Grind.{flat_map-append}
use Rattle.std.proofs.lemmas.List.{take_all}
use Rattle.std.proofs.lemmas.List.Elements.{All-append}
use Rattle.httparse.specs.Ascii.{crlf_bytes}
use Rattle.httparse.specs.Grammar.{ChunkLine, HasNoChunkLine, HasNoSection, ReadsChunkLine, chunk_size, print_chunk_line, print_section}
use Rattle.httparse.proofs.ChunkLemmas.{chunk_line_unique}
use Rattle.rt_http.specs.inside.Pieces.{IsDataAt, IsLastAt}
use Rattle.rt_http.specs.declared.request.Piece.{Piece}
use Rattle.rt_http.specs.declared.request.Piece.TheVariants as piece
use Rattle.rt_http.specs.declared.fault.Refusal.{Refusal}
use Rattle.rt_http.specs.Chunks.{AreRead, Chunk, End, HasNoPiece, IsChunk, IsPieceAt, ReadsEnd, bytes_of, print_chunk, print_end}

-- ---- no piece

chunk_line : (bytes : List ℕ) (c : Chunk) (rest : List ℕ) → IsChunk c → bytes ≡ print_chunk c ++ rest
    → ReadsChunkLine bytes c.line (c.bytes ++ (crlf_bytes ++ rest))
chunk_line bytes c rest is e = (
  is.line,
  e ∙ append_assoc (print_chunk_line c.line ++ c.bytes) crlf_bytes rest
      ∙ append_assoc (print_chunk_line c.line) c.bytes (crlf_bytes ++ rest),
)

end_line : (bytes : List ℕ) (e : End) (rest : List ℕ) → ReadsEnd bytes e rest
    → ReadsChunkLine bytes e.line (print_section e.fields e.last ++ rest)
end_line bytes e rest h =
    (h.0.line, h.1 ∙ append_assoc (print_chunk_line e.line) (print_section e.fields e.last) rest)

-- no line is whole
pub none_without_line : (bytes : List ℕ) → HasNoChunkLine bytes → HasNoPiece bytes
none_without_line bytes h = record {
  chunk = λ c rest is e. h c.line (c.bytes ++ (crlf_bytes ++ rest)) (chunk_line bytes c rest is e);
  end = λ e rest is. h e.line (print_section e.fields e.last ++ rest) (end_line bytes e rest is);
}

length_of_chunk : (c : Chunk) (rest : List ℕ)
    → length (print_chunk c ++ rest) ≡ length (print_chunk_line c.line) + length c.bytes + 2 + length rest
length_of_chunk c rest = grind (arith, length-append)

-- a line says more bytes than there are
pub none_if_short : (bytes : List ℕ) (l : ChunkLine) (start size : ℕ) → ReadsChunkLine bytes l (drop start bytes)
    → start ≡ length (print_chunk_line l) → size ≡ chunk_size l → 0 < size → length bytes < start + size + 2
    → HasNoPiece bytes
none_if_short bytes l start size reads is says some short = record {
  chunk = λ c rest h e.
      let same = chunk_line_unique bytes c.line l (c.bytes ++ (crlf_bytes ++ rest)) (drop start bytes) (chunk_line bytes c rest h e) reads in
      let long : length bytes ≡ length (print_chunk_line c.line) + length c.bytes + 2 + length rest = ap length e ∙ length_of_chunk c rest in
      let line : length (print_chunk_line c.line) ≡ start = ap (λ k. length (print_chunk_line k)) same.0 ∙ sym is in
      let bytes_are : length c.bytes ≡ size = sym h.size ∙ ap chunk_size same.0 ∙ sym says in
      omega (arith, long, line, bytes_are, short);
  end = λ e rest h.
      let same = chunk_line_unique bytes e.line l (print_section e.fields e.last ++ rest) (drop start bytes) (end_line bytes e rest h) reads in
      let none : size ≡ 0 = says ∙ ap chunk_size (sym same.0) ∙ h.0.size in
      omega (arith, none, some);
}

-- a line says none, and no fields stand behind it
pub none_without_section : (bytes : List ℕ) (l : ChunkLine) (start : ℕ) → ReadsChunkLine bytes l (drop start bytes)
    → chunk_size l ≡ 0 → HasNoSection (drop start bytes) → HasNoPiece bytes
none_without_section bytes l start reads says h = record {
  chunk = λ c rest is e.
      let same = chunk_line_unique bytes c.line l (c.bytes ++ (crlf_bytes ++ rest)) (drop start bytes) (chunk_line bytes c rest is e) reads in
      let none : length c.bytes ≡ 0 = sym is.size ∙ ap chunk_size same.0 ∙ says in
      omega (arith, none, is.some);
  end = λ e rest is.
      let same = chunk_line_unique bytes e.line l (print_section e.fields e.last ++ rest) (drop start bytes) (end_line bytes e rest is) reads in
      h e.fields e.last rest (is.0.fields, sym same.1);
}

-- ---- a piece

length_of_slice : (bytes : List ℕ) (start stop : ℕ) → start ≤ stop → stop ≤ length bytes
    → length (slice_range bytes start stop) ≡ stop - start
length_of_slice bytes start stop ordered within = grind (arith, length-take, length-drop)

-- behind a line that says so many bytes
pub data_piece : (bytes : List ℕ) (l : ChunkLine) (start size : ℕ) (r : Result Piece Refusal)
    → ReadsChunkLine bytes l (drop start bytes) → start ≡ length (print_chunk_line l) → size ≡ chunk_size l
    → 0 < size → IfOk r (IsDataAt bytes start size) → IfOk r (IsPieceAt bytes)
data_piece bytes l start size (Err e) reads is says some h = tt
data_piece bytes l start size (Ok piece.More) reads is says some h =
    none_if_short bytes l start size reads is says some h
data_piece bytes l start size (Ok (piece.Last stop)) reads is says some h = absurd h
data_piece bytes l start size (Ok (piece.Data from stop)) reads is says some h =
    let c : Chunk = record { line = l; bytes = slice_range bytes start stop } in
    let long : length (slice_range bytes start stop) ≡ size =
    length_of_slice bytes start stop (omega (arith, h.1)) (omega (arith, h.2)) ∙ omega (arith, h.1) in
    let sized : chunk_size l ≡ length (slice_range bytes start stop) = sym (long ∙ says) in
    let nonempty : 0 < length (slice_range bytes start stop) = omega (arith, long, some) in
    let rest = drop (stop + 2) bytes in (
      omega (arith, h.0, h.1),
      h.2,
      (
        c,
        (record { line = reads.0; size = sized; some = nonempty }),
        reads.1 ∙ ap (λ xs. print_chunk_line l ++ xs) h.3
            ∙ sym (append_assoc (print_chunk_line l) (slice_range bytes start stop) (crlf_bytes ++ rest))
            ∙ sym (append_assoc (print_chunk_line l ++ slice_range bytes start stop) crlf_bytes rest),
        ap (λ n. slice_range bytes n stop) h.0,
      ),
    )

-- behind a line that says none
pub last_piece : (bytes : List ℕ) (l : ChunkLine) (start : ℕ) (r : Result Piece Refusal)
    → ReadsChunkLine bytes l (drop start bytes) → chunk_size l ≡ 0 → IfOk r (IsLastAt bytes start)
    → IfOk r (IsPieceAt bytes)
last_piece bytes l start (Err e) reads says h = tt
last_piece bytes l start (Ok piece.More) reads says h = none_without_section bytes l start reads says h
last_piece bytes l start (Ok (piece.Data from stop)) reads says h = absurd h
last_piece bytes l start (Ok (piece.Last stop)) reads says h =
    let e : End = record { line = l; fields = h.2.0; last = h.2.1 } in (
      h.1,
      (
        e,
        (
          (record { line = reads.0; size = says; fields = h.2.2.0 }),
          reads.1 ∙ ap (λ xs. print_chunk_line l ++ xs) h.2.2.1
              ∙ sym (append_assoc (print_chunk_line l) (print_section h.2.0 h.2.1) (drop stop bytes)),
        ),
      ),
    )

-- ---- one more piece

-- the chunks that were read up to there
abbrev pub AreIn : List ℕ → List ℕ → ℕ → List ℕ → Type 0
AreIn bytes before at after =
    (at ≤ length bytes)
    × ((chunks : List Chunk) × All IsChunk chunks × (after ≡ before ++ bytes_of chunks)
    × (bytes ≡ flat_map print_chunk chunks ++ drop at bytes))

one : (c : Chunk) → IsChunk c → All IsChunk (c ∷ [])
one c h = search rules

one_print : (chunks : List Chunk) (c : Chunk)
    → flat_map print_chunk (chunks ++ c ∷ []) ≡ flat_map print_chunk chunks ++ print_chunk c
one_print chunks c =
    flat_map-append print_chunk chunks (c ∷ []) ∙ ap (λ xs. flat_map print_chunk chunks ++ xs) (append-nil (print_chunk c))

one_bytes : (chunks : List Chunk) (c : Chunk) → bytes_of (chunks ++ c ∷ []) ≡ bytes_of chunks ++ c.bytes
one_bytes chunks c =
    flat_map-append (λ (k : Chunk). k.bytes) chunks (c ∷ []) ∙ ap (λ xs. bytes_of chunks ++ xs) (append-nil c.bytes)

-- one more chunk
pub one_more_chunk : (bytes before mid after brought : List ℕ) (at stop next : ℕ) (c : Chunk)
    → AreIn bytes before at mid → IsChunk c → drop at bytes ≡ print_chunk c ++ drop (stop + 2) (drop at bytes)
    → brought ≡ c.bytes → after ≡ mid ++ brought → next ≡ at + stop + 2 → next ≤ length bytes
    → AreIn bytes before next after
one_more_chunk bytes before mid after brought at stop next c h is reads brings put steps within =
    let rest : drop (stop + 2) (drop at bytes) ≡ drop next bytes =
    drop-drop (stop + 2) at bytes ∙ ap (λ n. drop n bytes) {x = at + (stop + 2)} {y = next} (omega (arith, steps)) in (
      within,
      (
        h.1.0 ++ c ∷ [],
        All-append IsChunk h.1.0 (c ∷ []) h.1.1 (one c is),
        put ∙ ap₂ (λ xs ys. xs ++ ys) h.1.2 brings ∙ append_assoc before (bytes_of h.1.0) c.bytes
            ∙ ap (λ xs. before ++ xs) (sym (one_bytes h.1.0 c)),
        h.1.3 ∙ ap (λ xs. flat_map print_chunk h.1.0 ++ xs) (reads ∙ ap (λ xs. print_chunk c ++ xs) rest)
            ∙ sym (append_assoc (flat_map print_chunk h.1.0) (print_chunk c) (drop next bytes))
            ∙ ap (λ xs. xs ++ drop next bytes) (sym (one_print h.1.0 c)),
      ),
    )

-- the bytes from there on
pub rest_is : (bytes : List ℕ) (at : ℕ) → slice_range bytes at (length bytes) ≡ drop at bytes
rest_is bytes at = take_all (length bytes - at) (drop at bytes) (omega (arith, length-drop at bytes))

-- a chunk at the front of what is left
pub step_in : (bytes rest before mid after : List ℕ) (at start stop next : ℕ) → rest ≡ drop at bytes
    → AreIn bytes before at mid → IsPieceAt rest (piece.Data start stop)
    → after ≡ mid ++ slice_range bytes (at + start) (at + stop) → next ≡ at + stop + 2 → AreIn bytes before next after
step_in bytes rest before mid after at start stop next is a h put steps =
    let p = subst (λ r. IsPieceAt r (piece.Data start stop)) is h in
    let brings : slice_range bytes (at + start) (at + stop) ≡ slice_range (drop at bytes) start stop =
    ap₂ take {x = at + stop - (at + start)} {y = stop - start} (omega arith) (sym (drop-drop start at bytes)) in
    let within : next ≤ length bytes = omega (arith, p.1, length-drop at bytes, steps) in
    one_more_chunk bytes before mid after (slice_range bytes (at + start) (at + stop)) at stop next p.2.0 a p.2.1 p.2.2
    (brings ∙ p.2.3) put steps within

-- nothing more is whole
pub read_open : (bytes rest before after : List ℕ) (at : ℕ) → rest ≡ drop at bytes → AreIn bytes before at after
    → IsPieceAt rest piece.More → AreRead bytes before at false after
read_open bytes rest before after at is a h = (a.0, (a.1.0, a.1.1, a.1.2, (a.1.3, subst HasNoPiece is h)))

-- the end stands there
pub read_whole : (bytes rest before after : List ℕ) (at stop size : ℕ) → rest ≡ drop at bytes
    → AreIn bytes before at after → IsPieceAt rest (piece.Last stop) → size ≡ at + stop
    → AreRead bytes before size true after
read_whole bytes rest before after at stop size is a h steps =
    let p = subst (λ r. IsPieceAt r (piece.Last stop)) is h in
    let left : drop stop (drop at bytes) ≡ drop size bytes =
    drop-drop stop at bytes ∙ ap (λ n. drop n bytes) (sym steps) in (
      omega (arith, a.0, p.0, length-drop at bytes, steps),
      (
        a.1.0,
        a.1.1,
        a.1.2,
        (
          p.1.0,
          p.1.1.0,
          a.1.3 ∙ ap (λ xs. flat_map print_chunk a.1.0 ++ xs) (p.1.1.1 ∙ ap (λ xs. print_end p.1.0 ++ xs) left),
        ),
      ),
    )

-- what was read of what holds these bytes
pub are_read_at : (bytes mine before ours : List ℕ) (size : ℕ) (whole : Bool) (after : List ℕ) → mine ≡ bytes
    → ours ≡ before → AreRead bytes before size whole after → AreRead mine ours size whole after
are_read_at bytes mine before ours size whole after e f h =
    subst (λ b. AreRead b ours size whole after) (sym e) (subst (λ b. AreRead bytes b size whole after) (sym f) h)
