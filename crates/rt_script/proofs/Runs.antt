-- Lines of an input that are done one after another.
use Rattle.std.proofs.Common.{◌≡◌, ℕ, List, [], ◌∷◌, ◌++◌, Bool, true, false, not, Option, Some, refl, sym, ap, subst, ◌∙◌, append-nil}
use Rattle.std.proofs.Common.{append_assoc}
use Rattle.std.specs.Prelude.{if◌then◌else◌}
use Rattle.rt_input.specs.Lines.{Gives, Lines, lines_of, to_come}
use Rattle.rt_script.specs.declared.script.Script.{Script}
use Rattle.rt_script.specs.Run.{Progress}
use Rattle.rt_script.specs.inside.Pieces.{Begins, Runs, so_far}
use Rattle.rt_script.proofs.Written.{Begins-done, Begins-next, Runs-append}

-- of all lines some are done, and the others are to come
abbrev pub Did : List (List ℕ) → Progress → Option (List ℕ) → Lines → Option (List ℕ) → Script → Option (List ℕ) → Type 0
Did whole old contents lines remaining script new_contents =
    (left : List ℕ) × (remaining ≡ Some left) × (done : List (List ℕ)) × (whole ≡ done ++ to_come lines left)
    × Runs done old contents script new_contents

-- the next line is given and done
pub Did-line : (whole : List (List ℕ)) (old : Progress) (c0 c1 c2 r1 r2 : Option (List ℕ)) (l1 l2 : Lines) (s1 s2 : Script)
    → Did whole old c0 l1 r1 s1 c1 → l1.ended ≡ false
    → ((left : List ℕ) → r1 ≡ Some left → Gives l1 left l2 r2)
    → Runs (l2.line ∷ []) (so_far [] s1) c1 s2 c2 → Did whole old c0 l2 r2 s2 c2
Did-line whole old c0 c1 c2 r1 r2 l1 l2 s1 s2 (left, is, done, e, runs) goes gives ran =
    let g : Gives l1 left l2 r2 = gives left is in
    let G : Bool → Type 0 = λ b. to_come l1 left ≡ (if b then [] else l2.line ∷ []) ++ to_come l2 g.0 in
    let next : to_come l1 left ≡ (l2.line ∷ []) ++ to_come l2 g.0 = subst G goes g.2 in (
      g.0,
      g.1,
      done ++ l2.line ∷ [],
      e ∙ ap (λ ls. done ++ ls) next ∙ sym (append_assoc done (l2.line ∷ []) (to_come l2 g.0)),
      Runs-append done (l2.line ∷ []) old c0 c1 c2 s1 s2 runs ran,
    )

-- all lines are given
pub Did-all : (whole : List (List ℕ)) (old : Progress) (c0 c1 r : Option (List ℕ)) (l : Lines) (s : Script)
    → Did whole old c0 l r s c1 → l.ended ≡ true → Runs whole old c0 s c1
Did-all whole old c0 c1 r l s (left, is, done, e, runs) ended =
    let G : Bool → Type 0 = λ b. whole ≡ done ++ (if b then [] else lines_of (l.rest ++ left)) in
    let all : whole ≡ done = subst G ended e ∙ append-nil done in
    let P : List (List ℕ) → Type 0 = λ w. Runs w old c0 s c1 in
    subst P (sym all) runs

-- no more lines are given
pub Did-some : (whole : List (List ℕ)) (old : Progress) (c0 c1 r : Option (List ℕ)) (l : Lines) (s : Script)
    → Did whole old c0 l r s c1 → Begins whole old c0 s c1
Did-some whole old c0 c1 r l s (left, is, done, e, runs) =
    let P : List (List ℕ) → Type 0 = λ w. Begins w old c0 s c1 in
    subst P (sym e) (Begins-done done (to_come l left) old c0 c1 s runs)

-- the next line is given, and begun
pub Did-begun : (whole : List (List ℕ)) (old : Progress) (c0 c1 c2 r1 r2 : Option (List ℕ)) (l1 l2 : Lines) (s1 s2 : Script)
    → Did whole old c0 l1 r1 s1 c1 → l1.ended ≡ false
    → ((left : List ℕ) → r1 ≡ Some left → Gives l1 left l2 r2)
    → Begins (l2.line ∷ []) (so_far [] s1) c1 s2 c2 → Begins whole old c0 s2 c2
Did-begun whole old c0 c1 c2 r1 r2 l1 l2 s1 s2 (left, is, done, e, runs) goes gives begun =
    let g : Gives l1 left l2 r2 = gives left is in
    let G : Bool → Type 0 = λ b. to_come l1 left ≡ (if b then [] else l2.line ∷ []) ++ to_come l2 g.0 in
    let next : to_come l1 left ≡ l2.line ∷ to_come l2 g.0 = subst G goes g.2 in
    let P : List (List ℕ) → Type 0 = λ w. Begins w old c0 s2 c2 in
    subst P (sym (e ∙ ap (λ ls. done ++ ls) next))
    (Begins-next done (to_come l2 g.0) l2.line old c0 c1 c2 s1 s2 runs begun)

pub not_true : (m b : Bool) → m ≡ not b → m ≡ true → b ≡ false
not_true m true e f = cc
not_true m false e f = refl

pub not_false : (m b : Bool) → m ≡ not b → m ≡ false → b ≡ true
not_false m true e f = refl
not_false m false e f = cc
