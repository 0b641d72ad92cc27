-- The ends of connections, in turns.
use Rattle.std.specs.Prelude.{◌≡◌, ◌∷◌, ◌++◌, [], ℕ, List, Bool, true, false, Option, IfSome}
use Rattle.std.specs.Option.{option_map}
use Rattle.rt_peer.specs.Runs.{EndSome}
use Rattle.rt_peer.specs.Turns.{is_last_turn}
use Rattle.rt_hub.specs.Hubs.{Hub, IsMade}
use Rattle.rt_journal.specs.Journals.{Journal}
use Rattle.rt_hub.specs.declared.hub.TheConstants.{TURN_ACTIONS}
use Rattle.rt_emulate.specs.inside.Keeping.{note_end, note_turn}

-- a turn of a connection's end is noted: its last one as its end
abbrev pub notes_turn : ℕ → Bool → Journal → Journal
notes_turn n true j = note_end n j
notes_turn n false j = note_turn n TURN_ACTIONS j

-- those that go once the first has had a turn: it stands behind the others, but behind its last turn
abbrev pub left_after : Bool → ℕ → List ℕ → List ℕ
left_after true n rest = rest
left_after false n rest = rest ++ n ∷ []

-- the first one has a turn of its end, which is noted; it has gone where that was the last one
abbrev pub LeavesOn : List ℕ → Option Hub → Option Journal → Bool → List ℕ → Option Hub → Option Journal → Type 0
LeavesOn [] hub kept gone left hub2 kept2 = (gone ≡ false) × (left ≡ []) × (hub2 ≡ hub) × (kept2 ≡ kept)
LeavesOn (n ∷ rest) hub kept gone left hub2 kept2 =
    IsMade hub (EndSome n TURN_ACTIONS) hub2
    × IfSome hub (λ (h : Hub). gone ≡ is_last_turn h.peer n TURN_ACTIONS)
    × (left ≡ left_after gone n rest) × (kept2 ≡ option_map (notes_turn n gone) kept)
