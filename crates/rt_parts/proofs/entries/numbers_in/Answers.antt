use Rattle.std.proofs.Common.{◌≡◌, ℕ, Bool, [], ◌∷◌, ◌||◌, List, map, refl, ap, ◌∙◌, rules}
use Rattle.std.specs.List.{list_any}
use Rattle.rt_parts.proofs.entries.numbers_in.Goals as goal

of_firsts : (p : ℕ → Bool) (pairs : List (ℕ × ℕ)) → list_any p (map (λ (o : ℕ × ℕ). o.0) pairs) ≡ list_any (λ (o : ℕ × ℕ). p o.0) pairs
of_firsts p [] = refl
of_firsts p (o ∷ pairs) = ap (λ b. p o.0 || b) (of_firsts p pairs)

pub returns-clause-same : goal.returns-clause-same
returns-clause-same c = λ p.
    let firsts : c.push_firsts.new.numbers.items ≡ map (λ (o : ℕ × ℕ). o.0) c.args.pairs.now = search rules in
    c.sort_once.ensures.same p ∙ ap (list_any p) firsts ∙ of_firsts p c.args.pairs.now
