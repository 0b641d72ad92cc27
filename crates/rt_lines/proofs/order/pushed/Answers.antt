use Rattle.std.proofs.Common.{rules, ◌≡◌, ◌<◌, ◌≤◌, List, [], ◌∷◌, length, Err, refl, inl, arith}
use Rattle.serde_json.specs.declared.value.Value.{Value}
use Rattle.rt_lines.specs.Typing.{push_in}
use Rattle.rt_lines.specs.declared.error.LineError.TheVariants.{Bad}
use Rattle.rt_lines.specs.inside.FormView.{views}
use Rattle.rt_lines.proofs.order.pushed.Goals as goal
use Rattle.rt_lines.proofs.order.pushed.Goals.{in_default-via-then-words-lt3, in_default-via-else-words-lt3+else-words-lt4}

-- there are fewer words than three, or more
few : (words : List Value) → length words < 3 → push_in (views words) ≡ Err Bad
few [] h = refl
few (a ∷ []) h = refl
few (a ∷ b ∷ []) h = refl
few (a ∷ b ∷ c ∷ words) h = absurd (omega (arith, h))

many : (words : List Value) → 4 ≤ length words → push_in (views words) ≡ Err Bad
many [] h = refl
many (a ∷ []) h = refl
many (a ∷ b ∷ []) h = refl
many (a ∷ b ∷ c ∷ []) h = absurd (omega (arith, h))
many (a ∷ b ∷ c ∷ d ∷ words) h = refl

pub returns-in_default-clause-fault : goal.returns-in_default-clause-fault
returns-in_default-clause-fault c =
    inl (elim c.in_default.branch [
      | in_default-via-then-words-lt3 w ↦ few c.args.words.now (search rules)
      | in_default-via-else-words-lt3+else-words-lt4 w ↦ many c.args.words.now (search rules)
    ])
