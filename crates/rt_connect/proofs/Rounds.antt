-- Seats that are told one after another, each in its place.
use Rattle.std.proofs.Common.{◌≡◌, ◌+◌, ◌<◌, ◌≤◌, ◌++◌, ◌∷◌, [], ℕ, zero, suc, List, length, take, drop, set, get_or, map}
use Rattle.std.proofs.Common.{Option, refl, sym, ap, subst, ◌∙◌, arith, append-nil, append_assoc}
use Rattle.std.proofs.lemmas.List.{drop_all, drop_more}
use Rattle.rt_client.specs.Calls.{Locked, Seated}
use Rattle.rt_connect.specs.Doing.{Seats}
use Rattle.rt_connect.specs.Telling.{TellsAll, TellsPlace}

-- the first i seats were told, and what is told to the others comes behind that
abbrev pub AreTelling : Locked → Seats → List ℕ → ℕ → Locked → Type 0
AreTelling old seats text i now =
    (rest : List ℕ) (new : Locked) → TellsAll now (drop i seats) rest new → TellsAll old seats (text ++ rest) new

-- one seat more
pub place_told : (old : Locked) (seats : Seats) (text first : List ℕ) (i : ℕ) (d : Option Seated)
    (now next : Locked) → i < length seats → AreTelling old seats text i now
    → TellsPlace now (get_or seats i d) first next → AreTelling old seats (text ++ first) (i + 1) next
place_told old seats text first i d now next lt so_far told = λ rest new others.
    let these : TellsAll now (get_or seats i d ∷ drop (i + 1) seats) (first ++ rest) new =
    (first, rest, next, told, others, refl) in
    let all : TellsAll now (drop i seats) (first ++ rest) new =
    subst (λ ps. TellsAll now ps (first ++ rest) new) (sym (drop_more seats i d lt)) these in
    subst (λ t. TellsAll old seats t new) (sym (append_assoc text first rest)) (so_far (first ++ rest) new all)

-- none is left
pub all_told : (old : Locked) (seats : Seats) (text : List ℕ) (i : ℕ) (now : Locked) → length seats ≤ i
    → AreTelling old seats text i now → TellsAll old seats text now
all_told old seats text i now le so_far =
    let none : TellsAll now (drop i seats) [] now =
    subst (λ ps. TellsAll now ps [] now) (sym (drop_all i seats le)) (refl, refl) in
    subst (λ t. TellsAll old seats t now) (append-nil text) (so_far [] now none)

-- the element at i is changed
pub step_set : {X : Type 0} (f : X → X) (ys xs : List X) (i : ℕ) (d new : X)
    → xs ≡ map f (take i ys) ++ drop i ys → i < length xs → new ≡ f (get_or xs i d)
    → set xs i new ≡ map f (take (suc i) ys) ++ drop (suc i) ys
step_set f ys [] i d new e lt put = absurd (omega arith)
step_set f [] (x ∷ xs) zero d new e lt put = cc
step_set f (y ∷ ys) (x ∷ xs) zero d new e lt put =
    let head : x ≡ y = cc in
    let tail : xs ≡ ys = cc in
    λ i. (put ∙ ap f head) i ∷ tail i
step_set f [] (x ∷ xs) (suc i) d new e lt put = cc
step_set f (y ∷ ys) (x ∷ xs) (suc i) d new e lt put =
    let head : x ≡ f y = cc in
    let tail : xs ≡ map f (take i ys) ++ drop i ys = cc in
    λ j. head j ∷ step_set f ys xs i d new tail (omega arith) put j

-- an element that is left is as it was
pub at_left : {X : Type 0} (f : X → X) (ys xs : List X) (i : ℕ) (d : X)
    → xs ≡ map f (take i ys) ++ drop i ys → i < length xs → (i < length ys) × (get_or xs i d ≡ get_or ys i d)
at_left f ys [] i d e lt = absurd (omega arith)
at_left f [] (x ∷ xs) zero d e lt = cc
at_left f (y ∷ ys) (x ∷ xs) zero d e lt =
    let head : x ≡ y = cc in
    (omega arith, head)
at_left f [] (x ∷ xs) (suc i) d e lt = cc
at_left f (y ∷ ys) (x ∷ xs) (suc i) d e lt =
    let tail : xs ≡ map f (take i ys) ++ drop i ys = cc in
    let rest = at_left f ys xs i d tail (omega arith) in
    (omega (arith, rest.0), rest.1)
