-- The first kept listen that supplies a query has the least tag.
use Rattle.std.proofs.Common.{◌≡◌, ℕ, ◌<◌, ◌≤◌, true, false, cond, List, [], ◌∷◌, refl, sym, ◌∙◌, slice_index_or, arith, Option, Some, None, IfSome, IfNone}
use mathlib.Core.Bool.{true≢false}
use Rattle.std.specs.List.{find, All, AllPairs}
use Rattle.std.specs.Option.{option_map}
use Rattle.std.proofs.lemmas.List.Elements.{All-cons}
use Rattle.rt_query.specs.Queries.{Query}
use Rattle.rt_query.specs.Supply.{does_supply}
use Rattle.rt_cover.specs.Cover.{Tagged, Supplies}
use Rattle.rt_cover.specs.Shown.{IsLeastSupplier}
use Rattle.rt_cover.specs.laws.Pairs.{Contains-head, Contains-later, AllPairs-first, AllPairs-rest}

-- the tag of the first that supplies the query
abbrev first : List Tagged → Query → Option ℕ
first kept q = option_map (λ (k : Tagged). k.tag) (find (λ (k : Tagged). does_supply k.form q) kept)

later : (k : Tagged) (kept : List Tagged) (q : Query) → does_supply k.form q ≡ false → (o : Option ℕ) → IfSome o (IsLeastSupplier kept q) → IfSome o (IsLeastSupplier (k ∷ kept) q)
later k kept q fails None h = h
later k kept q fails (Some t) h = record {
  listen = h.listen;
  is_kept = Contains-later k kept h.listen h.is_kept;
  of_tag = h.of_tag;
  supplies = h.supplies;
  least = All-cons (λ (j : Tagged). Supplies j.form q → t ≤ j.tag) k kept (λ s. absurd (true≢false (sym s ∙ fails))) h.least;
}

pub first_is_least : (kept : List Tagged) (q : Query) → AllPairs (λ (j k : Tagged). j.tag < k.tag) kept → IfSome (first kept q) (IsLeastSupplier kept q)
first_is_least [] q h = tt
first_is_least (k ∷ kept) q h =
    elim (does_supply k.form q) as (λ b. does_supply k.form q ≡ b → IfSome (option_map (λ (x : Tagged). x.tag) (cond b (Some k) (find (λ (x : Tagged). does_supply x.form q) kept))) (IsLeastSupplier (k ∷ kept) q)) [
      | true ↦ λ e. record {
        listen = k;
        is_kept = Contains-head k kept;
        of_tag = refl;
        supplies = e;
        least = All-cons (λ (j : Tagged). Supplies j.form q → k.tag ≤ j.tag) k kept (λ _. omega arith)
            (λ i d lt _. let above : k.tag < (slice_index_or kept i d).tag = AllPairs-first (λ (x y : Tagged). x.tag < y.tag) k kept h i d lt in omega arith);
      }
      | false ↦ λ e. later k kept q e (first kept q) (first_is_least kept q (AllPairs-rest (λ (x y : Tagged). x.tag < y.tag) k kept h))
    ] refl

pub none_supplies : (kept : List Tagged) (q : Query) → IfNone (first kept q) (All (λ (k : Tagged). does_supply k.form q ≡ false) kept)
none_supplies [] q = λ k d lt. absurd (omega arith)
none_supplies (k ∷ kept) q =
    elim (does_supply k.form q) as (λ b. does_supply k.form q ≡ b → IfNone (option_map (λ (x : Tagged). x.tag) (cond b (Some k) (find (λ (x : Tagged). does_supply x.form q) kept))) (All (λ (x : Tagged). does_supply x.form q ≡ false) (k ∷ kept))) [
      | true ↦ λ e. tt
      | false ↦ λ e. more e (first kept q) (none_supplies kept q)
    ] refl
  where
    more : does_supply k.form q ≡ false → (o : Option ℕ) → IfNone o (All (λ (x : Tagged). does_supply x.form q ≡ false) kept) → IfNone o (All (λ (x : Tagged). does_supply x.form q ≡ false) (k ∷ kept))
    more e None h = All-cons (λ (x : Tagged). does_supply x.form q ≡ false) k kept e h
    more e (Some t) h = h
