-- Rows of lines that the prover computes: bounds of two texts and of five bytes.
use Rattle.std.specs.Prelude.{◌≡◌, ◌≢◌, false, List, [], ◌∷◌, ℕ, Option, Some, None, codes}
use Rattle.rt_hub.specs.declared.refusal.Bounds.{Bounds}
use Rattle.rt_hub.specs.Hubs.{waits_for}
use Rattle.rt_hub.specs.Lines.{Line, bytes_in_all, empty_line, line_of, over_line, with_texts}

abbrev pub small : Bounds
small = record { messages = 2; bytes = 5 }

abbrev pub a : List ℕ
a = codes "a"

abbrev pub bcde : List ℕ
bcde = codes "bcde"

-- texts wait in the order in which they came, and not in another
abbrev pub TextsWait : Type 0
TextsWait =
    (with_texts small (a ∷ bcde ∷ []) (Some empty_line)
    ≡ Some (record { waiting = a ∷ bcde ∷ []; is_over = false }))
    × (with_texts small (a ∷ bcde ∷ []) (Some empty_line)
    ≢ Some (record { waiting = bcde ∷ a ∷ []; is_over = false }))

-- a line in which these wait
abbrev pub holding : List (List ℕ) → Option Line
holding texts = Some (record { waiting = texts; is_over = false })

-- where as many texts wait as may, the line is over with one more, and nothing waits; where one fewer waits,
-- all come behind it, however many they are
abbrev pub TextsEnd : Type 0
TextsEnd =
    (with_texts small (a ∷ []) (holding (a ∷ a ∷ [])) ≡ Some over_line)
    × (with_texts small (a ∷ a ∷ a ∷ []) (holding (a ∷ [])) ≡ holding (a ∷ a ∷ a ∷ a ∷ []))
    × (with_texts small (a ∷ a ∷ a ∷ []) (holding (a ∷ [])) ≢ Some over_line)

-- so it is with bytes; and a call that tells it nothing leaves a line as it is
abbrev pub BytesEnd : Type 0
BytesEnd =
    (with_texts small (a ∷ []) (holding (codes "abcde" ∷ [])) ≡ Some over_line)
    × (with_texts small (bcde ∷ []) (holding (bcde ∷ [])) ≡ holding (bcde ∷ bcde ∷ []))
    × (with_texts small [] (holding (codes "abcde" ∷ [])) ≡ holding (codes "abcde" ∷ []))

-- a line that is over stays so, and there is no line where there was none
abbrev pub StaysOver : Type 0
StaysOver =
    (with_texts small (a ∷ []) (Some over_line) ≡ Some over_line)
    × (with_texts small (a ∷ []) None ≡ None)

-- lines are numbered from 1
abbrev pub NumbersCount : Type 0
NumbersCount =
    (line_of (Some empty_line ∷ None ∷ []) 0 ≡ None)
    × (line_of (Some empty_line ∷ None ∷ []) 1 ≡ Some empty_line)
    × (line_of (Some empty_line ∷ None ∷ []) 2 ≡ None) × (line_of (Some empty_line ∷ None ∷ []) 3 ≡ None)

-- what waits is counted for all, and for each with what is elsewhere
abbrev pub BytesCount : Type 0
BytesCount =
    (bytes_in_all (holding (a ∷ bcde ∷ []) ∷ None ∷ holding (a ∷ []) ∷ []) ≡ 6)
    × (waits_for (holding (a ∷ bcde ∷ []) ∷ []) (2 ∷ 9 ∷ []) 1 ≡ 7)
    × (waits_for (holding (a ∷ bcde ∷ []) ∷ []) (2 ∷ 9 ∷ []) 2 ≡ 9)
    × (waits_for (holding (a ∷ bcde ∷ []) ∷ []) (2 ∷ 9 ∷ []) 3 ≡ 0)
