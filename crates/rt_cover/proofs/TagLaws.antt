-- The tags of the listens kept stay apart, and below the next one.
use Rattle.std.proofs.Common.{◌≡◌, ℕ, zero, suc, ◌+◌, ◌<◌, Bool, not, inl, inr, List, [], ◌∷◌, map, length, refl, sym, ap, subst, ◌∙◌, arith, slice_index_or}
use Rattle.std.specs.List.{filter, list_any, enumerate_from, Contains}
use Rattle.std.proofs.lemmas.List.{get_or_default}
use Rattle.std.proofs.lemmas.List.Elements.{All-contains, Contains-get_or, Contains-append_cases}
use Rattle.rt_query.specs.Queries.{Query}
use Rattle.rt_query.specs.QueryEq.{query_eq}
use Rattle.rt_cover.specs.Cover.{Tagged, is_kept, started, kept_for}
use Rattle.rt_cover.specs.laws.KeptListens.{AreTagged}
use Rattle.rt_cover.specs.laws.CoverLaws.{Contains-from_filter}

tag_at : (n : ℕ) (fs : List Query) (i : ℕ) (d : Tagged) → i < length fs → (slice_index_or (map (λ (x : ℕ × Query). record { tag = x.0; form = x.1 }) (enumerate_from n fs)) i d).tag ≡ n + i
tag_at n [] i d lt = absurd (omega arith)
tag_at n (f ∷ fs) zero d lt = omega arith
tag_at n (f ∷ fs) (suc i) d lt = omega (arith, tag_at (n + 1) fs i d (omega arith))

pub length-started : (n : ℕ) (fs : List Query) → length {A = Tagged} (map (λ (x : ℕ × Query). record { tag = x.0; form = x.1 }) (enumerate_from n fs)) ≡ length fs
length-started n [] = refl
length-started n (f ∷ fs) = ap suc (length-started (n + 1) fs)

-- a started listen by its place
started_at : (n : ℕ) (kept : List Tagged) (fs : List Query) (k : Tagged) (m : Contains (started n kept fs) k) → k.tag ≡ n + m.0
started_at n kept fs k m =
    let new = filter (λ f. not (is_kept kept f)) fs in
    ap (λ (x : Tagged). x.tag) (sym m.2) ∙ tag_at n new m.0 k (subst (λ z. m.0 < z) (length-started n new) m.1)

pub AreTagged-kept_for : (n : ℕ) (kept : List Tagged) (fs : List Query) → AreTagged n kept → AreTagged (n + length (started n kept fs)) (kept_for n kept fs)
AreTagged-kept_for n kept fs t = record {
  apart = λ j k mj mk e. elim (Contains-append_cases old new j mj) [
    | inl a ↦ elim (Contains-append_cases old new k mk) [
      | inl b ↦ t.apart j k (Contains-from_filter stays kept j a) (Contains-from_filter stays kept k b) e
      | inr b ↦ absurd (omega (arith, low j a, started_at n kept fs k b, e))
    ]
    | inr a ↦ elim (Contains-append_cases old new k mk) [
      | inl b ↦ absurd (omega (arith, low k b, started_at n kept fs j a, e))
      | inr b ↦ one j k a b e
    ]
  ];
  below = λ i d lt. let m = Contains-get_or (kept_for n kept fs) i d lt in bound (slice_index_or (kept_for n kept fs) i d) m;
}
  where
    stays : Tagged → Bool
    stays k = list_any (query_eq k.form) fs

    old : List Tagged
    old = filter (λ k. list_any (query_eq k.form) fs) kept

    new : List Tagged
    new = started n kept fs

    low : (k : Tagged) → Contains old k → k.tag < n
    low k m = All-contains (λ (x : Tagged). x.tag < n) kept k t.below (Contains-from_filter stays kept k m)

    one : (j k : Tagged) → Contains new j → Contains new k → j.tag ≡ k.tag → j ≡ k
    one j k a b e =
        let place : a.0 ≡ b.0 = omega (arith, started_at n kept fs j a, started_at n kept fs k b, e) in
        sym a.2 ∙ get_or_default new a.0 j k a.1 ∙ ap (λ i. slice_index_or new i k) place ∙ b.2

    bound : (k : Tagged) → Contains (kept_for n kept fs) k → k.tag < n + length new
    bound k m = elim (Contains-append_cases old new k m) [
      | inl a ↦ omega (arith, low k a)
      | inr b ↦ omega (arith, started_at n kept fs k b, b.1)
    ]
