-- A stream whose first bytes were read before.
use Rattle.std.specs.Prelude.{◌≡◌, ◌+◌, ℕ, List, [], ◌∷◌, min, nat_lt, if◌then◌else◌, length, take, slice_range, Result, Ok}
use Rattle.rt_emulate.specs.declared.calls.Replay.{Replay}

-- as many bytes as there is room for
abbrev pub fits : List ℕ → List ℕ → ℕ
fits bytes room = min (length bytes) (length room)

-- where the bytes end that are read again next: with the head, and then with all
abbrev pub run_end : Replay → ℕ
run_end r = if nat_lt r.at r.end then min r.end (length r.first.items) else length r.first.items

-- the bytes that are read again next
abbrev pub first_run : Replay → List ℕ
first_run r = slice_range r.first.items r.at (run_end r)

-- as many of them are given as there is room for; where there are none the stream is read, and nothing else changes
abbrev pub ReadsRun : {E : Type 0} → List ℕ → List ℕ → Result ℕ E → List ℕ → Replay → Replay → Type 0
ReadsRun [] room result is old new = new ≡ record old { stream = new.stream }
ReadsRun (b ∷ bytes) room result is old new =
    (result ≡ Ok (fits (b ∷ bytes) room))
    × (take (fits (b ∷ bytes) room) is ≡ take (fits (b ∷ bytes) room) (b ∷ bytes))
    × (new ≡ record old { at = old.at + fits (b ∷ bytes) room })
