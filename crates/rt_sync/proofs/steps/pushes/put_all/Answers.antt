use Rattle.std.proofs.Common.{◌≡◌, ◌≤◌, ℕ, zero, suc, List, [], ◌∷◌, length, drop, arith, refl, sym, ap, ◌∙◌}
use Rattle.std.specs.List.{fold}
use Rattle.rt_tree.specs.Assignments.{Assignment}
use Rattle.rt_cache.specs.Brought.{push}
use Rattle.rt_sync.proofs.steps.pushes.put_all.Goals as goal

drop_all : (i : ℕ) (xs : List Assignment) → length xs ≤ i → drop i xs ≡ []
drop_all zero [] h = refl
drop_all (suc i) [] h = refl
drop_all zero (x ∷ xs) h = absurd (omega arith)
drop_all (suc i) (x ∷ xs) h = drop_all i xs (omega arith)

pub returns-clause-pushed : goal.returns-clause-pushed
returns-clause-pushed c =
    sym (ap (fold (push c.args.query.now) c.loop-entry.brought) (drop_all c.loop-entry.entry-index c.args.entries.now c.loop-entry-test.false)) ∙ c.loop-entry.invariant.0
