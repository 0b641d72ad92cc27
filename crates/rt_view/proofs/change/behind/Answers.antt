use Rattle.std.specs.Prelude.{◌==◌}
use Rattle.std.proofs.Common.{◌≡◌, true, List, [], ◌∷◌, ◌++◌, length, refl, sym, ◌∙◌, arith, eqb-true, rules}
use Rattle.rt_view.specs.declared.change.Change.{Change}
use Rattle.rt_view.proofs.change.behind.Goals as goal

nothing : (xs ys : List Change) → (length xs == 0) ≡ true → ys ≡ xs ++ ys
nothing [] ys e = refl
nothing (x ∷ xs) ys e = absurd (omega (arith, eqb-true (length (x ∷ xs)) 0 e))

pub returns-then-is_empty : goal.returns-then-is_empty
returns-then-is_empty c =
    let empty : c.is_empty.result ≡ (length c.args.first.items == 0) = search rules in
    nothing c.args.first.items c.args.rest.items (sym empty ∙ c.if-is_empty.true)
