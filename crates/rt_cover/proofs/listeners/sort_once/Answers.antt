use Rattle.std.proofs.Common.{◌≡◌, ◌<◌, ℕ, Bool, eqb, List, sym, ap, subst, ◌∙◌}
use Rattle.std.specs.List.{dedup, list_any, AllPairs}
use Rattle.std.proofs.lemmas.List.Filters.{dedup_is}
use Rattle.std.proofs.lemmas.List.Folds.{Any-from_list_any}
use Rattle.std.proofs.lemmas.List.Kept.{AllPairs-from_increasing, Contains-dedup_nat, Contains-from_dedup}
use Rattle.std.proofs.lemmas.List.Sorted.{list_any-IsPermutation}
use Rattle.std.proofs.lemmas.Map.Keys.{IsStrictlyIncreasing-dedup}
use Rattle.rt_cover.specs.laws.FormLaws.{same_tests}
use Rattle.rt_cover.proofs.StartLaws.{list_any_with}
use Rattle.rt_cover.proofs.listeners.sort_once.Goals as goal

once_same : (xs : List ℕ) (p : ℕ → Bool) → list_any p (dedup eqb xs) ≡ list_any p xs
once_same xs p = same_tests (list_any p (dedup eqb xs)) (list_any p xs)
    (λ e. let a = Any-from_list_any p (dedup eqb xs) e in list_any_with p xs a.1 (Contains-from_dedup eqb xs a.1 (a.0, a.2, a.3)) a.4)
    (λ e. let a = Any-from_list_any p xs e in list_any_with p (dedup eqb xs) a.1 (Contains-dedup_nat xs a.1 (a.0, a.2, a.3)) a.4)

pub returns-clause-rise : goal.returns-clause-rise
returns-clause-rise c =
    let is : c.dedup.new.self.items ≡ dedup eqb c.sort_unstable.new.self.items = dedup_is eqb c.sort_unstable.new.self.items c.dedup.new.self.items c.dedup.ensures.filtered in
    subst (AllPairs (λ m n. m < n)) (sym is) (AllPairs-from_increasing (dedup eqb c.sort_unstable.new.self.items) (IsStrictlyIncreasing-dedup c.sort_unstable.new.self.items c.sort_unstable.ensures.sorted))

pub returns-clause-same : goal.returns-clause-same
returns-clause-same c = λ p.
    let is : c.dedup.new.self.items ≡ dedup eqb c.sort_unstable.new.self.items = dedup_is eqb c.sort_unstable.new.self.items c.dedup.new.self.items c.dedup.ensures.filtered in
    ap (list_any p) is ∙ once_same c.sort_unstable.new.self.items p
    ∙ sym (list_any-IsPermutation p c.args.numbers.now.items c.sort_unstable.new.self.items c.sort_unstable.ensures.permutation)
