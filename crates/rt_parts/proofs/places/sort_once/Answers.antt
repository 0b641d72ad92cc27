use Rattle.std.proofs.Common.{◌≡◌, ◌<◌, ℕ, Bool, true, false, eqb, List, refl, sym, ap, subst, ◌∙◌}
use Rattle.std.specs.List.{dedup, list_any, AllPairs, Contains}
use Rattle.std.proofs.lemmas.List.Filters.{dedup_is}
use Rattle.std.proofs.lemmas.List.Folds.{Any-from_list_any, list_any_at}
use Rattle.std.proofs.lemmas.List.Kept.{AllPairs-from_increasing, Contains-dedup_nat, Contains-from_dedup}
use Rattle.std.proofs.lemmas.List.Sorted.{list_any-IsPermutation}
use Rattle.std.proofs.lemmas.Map.Keys.{IsStrictlyIncreasing-dedup}
use Rattle.rt_parts.proofs.places.sort_once.Goals as goal

same_tests : (a b : Bool) → (a ≡ true → b ≡ true) → (b ≡ true → a ≡ true) → a ≡ b
same_tests true b f g = sym (f refl)
same_tests false true f g = g refl
same_tests false false f g = refl

any_with : (p : ℕ → Bool) (xs : List ℕ) (x : ℕ) → Contains xs x → p x ≡ true → list_any p xs ≡ true
any_with p xs x m e = list_any_at p xs m.0 x m.1 (ap p m.2 ∙ e)

once_same : (xs : List ℕ) (p : ℕ → Bool) → list_any p (dedup eqb xs) ≡ list_any p xs
once_same xs p = same_tests (list_any p (dedup eqb xs)) (list_any p xs)
    (λ e. let a = Any-from_list_any p (dedup eqb xs) e in any_with p xs a.1 (Contains-from_dedup eqb xs a.1 (a.0, a.2, a.3)) a.4)
    (λ e. let a = Any-from_list_any p xs e in any_with p (dedup eqb xs) a.1 (Contains-dedup_nat xs a.1 (a.0, a.2, a.3)) a.4)

pub returns-clause-rise : goal.returns-clause-rise
returns-clause-rise c =
    let is : c.dedup.new.self.items ≡ dedup eqb c.sort_unstable.new.self.items = dedup_is eqb c.sort_unstable.new.self.items c.dedup.new.self.items c.dedup.ensures.filtered in
    subst (AllPairs (λ m n. m < n)) (sym is) (AllPairs-from_increasing (dedup eqb c.sort_unstable.new.self.items) (IsStrictlyIncreasing-dedup c.sort_unstable.new.self.items c.sort_unstable.ensures.sorted))

pub returns-clause-same : goal.returns-clause-same
returns-clause-same c = λ p.
    let is : c.dedup.new.self.items ≡ dedup eqb c.sort_unstable.new.self.items = dedup_is eqb c.sort_unstable.new.self.items c.dedup.new.self.items c.dedup.ensures.filtered in
    ap (list_any p) is ∙ once_same c.sort_unstable.new.self.items p
    ∙ sym (list_any-IsPermutation p c.args.numbers.now.items c.sort_unstable.new.self.items c.sort_unstable.ensures.permutation)
