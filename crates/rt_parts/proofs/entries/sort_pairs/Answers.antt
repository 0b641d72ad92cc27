use Rattle.std.proofs.Common.{◌≡◌, ℕ, ◌&&◌, Bool, true, false, List, refl, sym, ap, subst, ◌∙◌, eqb-true}
use mathlib.Core.Bool.{true≢false}
use Rattle.std.specs.Prelude.{◌==◌}
use Rattle.std.specs.Cmp.{and_equiv, both_tied, nat_eq_equiv, on_equiv, unsigned_ties}
use Rattle.std.specs.List.{Contains, dedup, list_any}
use Rattle.std.specs.Ordering.{is_eq, nat_cmp}
use Rattle.std.proofs.lemmas.Cmp.{nat_cmp_total}
use Rattle.std.proofs.lemmas.List.Filters.{dedup_is}
use Rattle.std.proofs.lemmas.List.Folds.{Any-from_list_any, list_any_at}
use Rattle.std.proofs.lemmas.List.Kept.{Contains-dedup, Contains-from_dedup, IsStrictlySortedBy-dedup}
use Rattle.std.proofs.lemmas.List.Sorted.{list_any-IsPermutation}
use Rattle.rt_parts.specs.inside.Pairs.{AreUp, met_cmp}
use Rattle.rt_parts.proofs.PairLaws.{same_tests, up_from}
use Rattle.rt_parts.proofs.PlaceLaws.{pairs_total}
use Rattle.rt_parts.proofs.entries.sort_pairs.Goals as goal

abbrev same_pair : ℕ × ℕ → ℕ × ℕ → Bool
same_pair x y = x.0 == y.0 && x.1 == y.1

ties : (x y : ℕ × ℕ) → same_pair x y ≡ is_eq (met_cmp x y)
ties x y = both_tied (x.0 == y.0) (x.1 == y.1) (nat_cmp x.0 y.0) (nat_cmp x.1 y.1) (unsigned_ties x.0 y.0) (unsigned_ties x.1 y.1)

first_of : (a b : Bool) → (a && b) ≡ true → a ≡ true
first_of true b e = refl
first_of false b e = e

second_of : (a b : Bool) → (a && b) ≡ true → b ≡ true
second_of true b e = e
second_of false b e = absurd (true≢false (sym e))

same_is : (x y : ℕ × ℕ) → same_pair x y ≡ true → x ≡ y
same_is x y e = λ i. (eqb-true x.0 y.0 (first_of (x.0 == y.0) (x.1 == y.1) e) i, eqb-true x.1 y.1 (second_of (x.0 == y.0) (x.1 == y.1) e) i)

any_with : (p : ℕ × ℕ → Bool) (xs : List (ℕ × ℕ)) (x : ℕ × ℕ) → Contains xs x → p x ≡ true → list_any p xs ≡ true
any_with p xs x m e = list_any_at p xs m.0 x m.1 (ap p m.2 ∙ e)

once_same : (xs : List (ℕ × ℕ)) (p : ℕ × ℕ → Bool) → list_any p (dedup same_pair xs) ≡ list_any p xs
once_same xs p = same_tests (list_any p (dedup same_pair xs)) (list_any p xs)
    (λ e. let a = Any-from_list_any p (dedup same_pair xs) e in any_with p xs a.1 (Contains-from_dedup same_pair xs a.1 (a.0, a.2, a.3)) a.4)
    (λ e. let a = Any-from_list_any p xs e in any_with p (dedup same_pair xs) a.1 (Contains-dedup (and_equiv (on_equiv (λ (t : ℕ × ℕ). t.0) nat_eq_equiv) (on_equiv (λ (t : ℕ × ℕ). t.1) nat_eq_equiv)) same_is xs a.1 (a.0, a.2, a.3)) a.4)

pub returns-clause-up : goal.returns-clause-up
returns-clause-up c =
    let is : c.dedup.new.self.items ≡ dedup same_pair c.sort_unstable.new.self.items = dedup_is same_pair c.sort_unstable.new.self.items c.dedup.new.self.items c.dedup.ensures.filtered in
    subst AreUp (sym is) (up_from (dedup same_pair c.sort_unstable.new.self.items) (IsStrictlySortedBy-dedup (pairs_total nat_cmp nat_cmp_total) ties c.sort_unstable.new.self.items c.sort_unstable.ensures.sorted))

pub returns-clause-same : goal.returns-clause-same
returns-clause-same c = λ p.
    let is : c.dedup.new.self.items ≡ dedup same_pair c.sort_unstable.new.self.items = dedup_is same_pair c.sort_unstable.new.self.items c.dedup.new.self.items c.dedup.ensures.filtered in
    ap (list_any p) is ∙ once_same c.sort_unstable.new.self.items p
    ∙ sym (list_any-IsPermutation p c.args.pairs.now.items c.sort_unstable.new.self.items c.sort_unstable.ensures.permutation)
