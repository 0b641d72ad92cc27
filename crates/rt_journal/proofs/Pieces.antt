-- The lines of a journal, one after another.
use Rattle.std.proofs.Common.{◌≡◌, ℕ, suc, ◌+◌, ◌-◌, ◌<◌, ◌≤◌, Bool, true, false, cond, not, nat_lt, List, []}
use Rattle.std.proofs.Common.{◌∷◌, length, take, drop}
use Rattle.std.proofs.Common.{Option, Some, None, IfSome, IsSome, Result, Ok, Err, IfErr, OnOk, ◌⊎◌, inl, inr}
use Rattle.std.proofs.Common.{refl, sym, ap, subst, ◌∙◌, arith}
use Rattle.std.specs.Prelude.{position}
use Rattle.std.specs.List.{onto_first, position_or_len}
use Rattle.std.specs.Option.{option_and_then}
use Rattle.std.proofs.lemmas.Bool.Decides.{nat_tests}
use Rattle.std.proofs.lemmas.List.{length-drop}
use Rattle.std.proofs.lemmas.List.Quantifiers.{position-Some}
use Rattle.std.proofs.lemmas.List.Splits.{slice_split_first}
use Rattle.std.proofs.Math.Seq.{take-length}
use Rattle.rt_journal.specs.declared.line.LineFault.{LineFault}
use Rattle.rt_journal.specs.declared.line.LineFault.TheVariants.{BadLine, NoMemory}
use Rattle.rt_journal.specs.Entries.{is_feed, pieces_of}
use Rattle.rt_journal.specs.Replays.{Replay, after_line, after_pieces, torn_length}
use Rattle.rt_journal.proofs.Written.{some_piece}

some-is : (n i : ℕ) (b : Bool) → cond b (Some n) None ≡ Some i → n ≡ i
some-is n i true e = cc
some-is n i false e = cc

-- the first of them, where there is a line feed
first_piece : (bytes : List ℕ) (at : ℕ) → position is_feed bytes ≡ Some at
    → pieces_of bytes ≡ take at bytes ∷ pieces_of (drop (at + 1) bytes)
first_piece bytes at e =
    let is : position_or_len is_feed bytes ≡ at = some-is _ at _ e in
    let inside : position_or_len is_feed bytes < length bytes =
    omega (arith, is, (position-Some is_feed bytes at 0 e).0) in
    subst (λ n. pieces_of bytes ≡ take n bytes ∷ pieces_of (drop (n + 1) bytes)) is
    (slice_split_first is_feed bytes 0 inside)

-- a line is done, and then the others
pub line_done : (r : Replay) (line bytes : List ℕ) → after_pieces r (line ∷ pieces_of bytes)
    ≡ option_and_then (λ s. after_pieces s (pieces_of bytes)) (after_line r line)
line_done r line bytes =
    let h = some_piece bytes in
    ap (λ ps. after_pieces r (line ∷ ps)) h.2
    ∙ ap (λ ps. option_and_then (λ s. after_pieces s ps) (after_line r line)) (sym h.2)

torn_done : (line bytes : List ℕ) → torn_length (line ∷ pieces_of bytes) ≡ torn_length (pieces_of bytes)
torn_done line bytes =
    let h = some_piece bytes in ap (λ ps. torn_length (line ∷ ps)) h.2 ∙ ap torn_length (sym h.2)

first_done : (r : Replay) (bytes : List ℕ) (at : ℕ) → position is_feed bytes ≡ Some at
    → after_pieces r (pieces_of bytes)
    ≡ option_and_then (λ s. after_pieces s (pieces_of (drop (at + 1) bytes))) (after_line r (take at bytes))
first_done r bytes at e =
    ap (after_pieces r) (first_piece bytes at e) ∙ line_done r (take at bytes) (drop (at + 1) bytes)

pub first_torn : (bytes : List ℕ) (at : ℕ) → position is_feed bytes ≡ Some at
    → torn_length (pieces_of bytes) ≡ torn_length (pieces_of (drop (at + 1) bytes))
first_torn bytes at e =
    ap torn_length (first_piece bytes at e) ∙ torn_done (take at bytes) (drop (at + 1) bytes)

-- ---- the calls that take the lines

taken_first : (o new : Option Replay) (bytes : List ℕ) (at : ℕ) → position is_feed bytes ≡ Some at
    → IfSome o (λ r. IsSome new × (after_line r (take at bytes) ≡ new))
    → IfSome o (λ r. IsSome new × (after_pieces r (pieces_of bytes)
    ≡ option_and_then (λ s. after_pieces s (pieces_of (drop (at + 1) bytes))) new))
taken_first None new bytes at e h = h
taken_first (Some r) new bytes at e h = (
  h.0,
  first_done r bytes at e
      ∙ ap (option_and_then (λ s. after_pieces s (pieces_of (drop (at + 1) bytes)))) h.1,
)

refused_first : (o : Option Replay) (bytes : List ℕ) (at : ℕ) → position is_feed bytes ≡ Some at
    → IfSome o (λ r. after_line r (take at bytes) ≡ None)
    → IfSome o (λ r. after_pieces r (pieces_of bytes) ≡ None)
refused_first None bytes at e h = h
refused_first (Some r) bytes at e h =
    first_done r bytes at e ∙ ap (option_and_then (λ s. after_pieces s (pieces_of (drop (at + 1) bytes)))) h

-- what is left of a slice from a place on
pub from_place : (n : ℕ) (xs : List ℕ) → take (length xs - n) (drop n xs) ≡ drop n xs
from_place n xs = ap (λ k. take k (drop n xs)) (sym (length-drop n xs)) ∙ take-length (drop n xs)

-- no line feed is left
no_feed : (bytes : List ℕ) → length bytes ≤ position_or_len is_feed bytes → pieces_of bytes ≡ bytes ∷ []
no_feed [] h = refl
no_feed (b ∷ bs) h =
    elim (is_feed b) as (λ t. suc (length bs) ≤ cond (not t) (1 + position_or_len is_feed bs) 0
    → cond t ([] ∷ pieces_of bs) (onto_first b (pieces_of bs)) ≡ (b ∷ bs) ∷ []) [
      | true ↦ λ g. absurd (omega arith)
      | false ↦ λ g. ap (onto_first b) (no_feed bs (omega arith))
    ] h

none-is : (m n : ℕ) → cond (nat_lt m n) (Some m) None ≡ None → n ≤ m
none-is m n e = grind (arith, nat_tests)

last_piece : (bytes : List ℕ) → position is_feed bytes ≡ None → pieces_of bytes ≡ bytes ∷ []
last_piece bytes e = no_feed bytes (none-is (position_or_len is_feed bytes) (length bytes) e)

itself : (o : Option Replay) → option_and_then (λ s. Some s) o ≡ o
itself None = refl
itself (Some s) = refl

pub ended_lines : (o new : Option Replay) (all rest : List ℕ) → position is_feed rest ≡ None
    → IfSome o (λ r. IsSome new × (after_pieces r (pieces_of all)
    ≡ option_and_then (λ s. after_pieces s (pieces_of rest)) new))
    → IfSome o (λ r. IsSome new × (after_pieces r (pieces_of all) ≡ new))
ended_lines None new all rest e h = h
ended_lines (Some r) new all rest e h = (
  h.0,
  h.1 ∙ ap (λ ps. option_and_then (λ s. after_pieces s ps) new) (last_piece rest e) ∙ itself new,
)

pub ended_torn : (all rest : List ℕ) → position is_feed rest ≡ None
    → torn_length (pieces_of all) ≡ torn_length (pieces_of rest) → length rest ≡ torn_length (pieces_of all)
ended_torn all rest e h = sym (h ∙ ap torn_length (last_piece rest e))

-- the same of what the call answers
pub taken_result : {T E : Type 0} (a : Result T E) (o new : Option Replay) (bytes : List ℕ) (at : ℕ)
    → position is_feed bytes ≡ Some at
    → OnOk a (IfSome o (λ r. IsSome new × (after_line r (take at bytes) ≡ new)))
    → OnOk a (IfSome o (λ r. IsSome new × (after_pieces r (pieces_of bytes)
    ≡ option_and_then (λ s. after_pieces s (pieces_of (drop (at + 1) bytes))) new)))
taken_result (Ok x) o new bytes at e h = taken_first o new bytes at e h
taken_result (Err x) o new bytes at e h = h

why_refused : (why : LineFault) (o : Option Replay) (bytes : List ℕ) (at : ℕ) → position is_feed bytes ≡ Some at
    → ((why ≡ BadLine) × IfSome o (λ r. after_line r (take at bytes) ≡ None)) ⊎ (why ≡ NoMemory)
    → ((why ≡ BadLine) × IfSome o (λ r. after_pieces r (pieces_of bytes) ≡ None)) ⊎ (why ≡ NoMemory)
why_refused why o bytes at e (inl h) = inl (h.0, refused_first o bytes at e h.1)
why_refused why o bytes at e (inr h) = inr h

pub refused_result : {T : Type 0} (a : Result T LineFault) (o : Option Replay) (bytes : List ℕ) (at : ℕ)
    → position is_feed bytes ≡ Some at
    → IfErr a (λ w. ((w ≡ BadLine) × IfSome o (λ r. after_line r (take at bytes) ≡ None)) ⊎ (w ≡ NoMemory))
    → IfErr a (λ w. ((w ≡ BadLine) × IfSome o (λ r. after_pieces r (pieces_of bytes) ≡ None)) ⊎ (w ≡ NoMemory))
refused_result (Ok x) o bytes at e h = h
refused_result (Err why) o bytes at e h = why_refused why o bytes at e h
