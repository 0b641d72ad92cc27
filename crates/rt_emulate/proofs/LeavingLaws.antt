-- A turn of the first one's end.
use Rattle.std.proofs.Common.{◌≡◌, ◌∷◌, [], ℕ, List, Bool, false, Option, IfSome, length, refl, sym, subst}
use Rattle.std.specs.Option.{option_map}
use Rattle.rt_peer.specs.Runs.{EndSome}
use Rattle.rt_peer.specs.Turns.{is_last_turn}
use Rattle.rt_hub.specs.Hubs.{Hub, IsMade}
use Rattle.rt_journal.specs.Journals.{Journal}
use Rattle.rt_hub.specs.declared.hub.TheConstants.{TURN_ACTIONS}
use Rattle.rt_emulate.specs.inside.Leaving.{LeavesOn, left_after, notes_turn}

pub leaves : (all : List ℕ) (n : ℕ) (rest left : List ℕ) (hub hub2 : Option Hub) (kept kept2 : Option Journal) (gone : Bool)
    → all ≡ n ∷ rest → IsMade hub (EndSome n TURN_ACTIONS) hub2
    → IfSome hub (λ (h : Hub). gone ≡ is_last_turn h.peer n TURN_ACTIONS)
    → left ≡ left_after gone n rest → kept2 ≡ option_map (notes_turn n gone) kept
    → LeavesOn all hub kept gone left hub2 kept2
leaves all n rest left hub hub2 kept kept2 gone e made is goes noted =
    subst (λ xs. LeavesOn xs hub kept gone left hub2 kept2) (sym e) (made, is, goes, noted)

pub nobody : (all : List ℕ) (hub : Option Hub) (kept : Option Journal) → length all ≡ 0
    → LeavesOn all hub kept false all hub kept
nobody [] hub kept e = (refl, refl, refl, refl)
nobody (n ∷ rest) hub kept e = cc
