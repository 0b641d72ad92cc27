-- Actions that are taken out one after another, and all of them.
use Rattle.std.proofs.Common.{◌≡◌, ℕ, zero, suc, ◌+◌, ◌-◌, ◌<◌, ◌≤◌, Bool, true, false, cond, not, List, [], ◌∷◌, ◌++◌, length, take, append_assoc, append-nil, refl, sym, ap, ◌∙◌, arith, if◌then◌else◌}
use Rattle.std.specs.List.{filter}
use Rattle.std.proofs.lemmas.List.{length-append, take_all}
use Rattle.rt_peer.specs.Turns.{without_first}

module _ {X : Type 0} (test : X → Bool) where
  -- so many and one more
  pub one_then : (m : ℕ) (xs : List X) → without_first test m (without_first test 1 xs) ≡ without_first test (suc m) xs
  one_then zero xs = refl
  one_then (suc m) [] = refl
  one_then (suc m) (x ∷ xs) =
      elim (test x) as (λ b. test x ≡ b → without_first test (suc m) (if b then without_first test 0 xs else x ∷ without_first test 1 xs)
      ≡ (if b then without_first test (suc m) xs else x ∷ without_first test (suc (suc m)) xs)) [
        | true ↦ λ e. refl
        | false ↦ λ e.
            ap (λ b. if b then without_first test m (without_first test 1 xs) else x ∷ without_first test (suc m) (without_first test 1 xs)) e
            ∙ ap (λ ys. x ∷ ys) (one_then (suc m) xs)
      ] refl

  pub none_passes : (xs : List X) → length (filter test xs) ≤ 0 → filter (λ y. not (test y)) xs ≡ xs
  none_passes [] h = refl
  none_passes (x ∷ xs) h =
      elim (test x) as (λ b. length (cond b (x ∷ filter test xs) (filter test xs)) ≤ 0
      → cond (not b) (x ∷ filter (λ y. not (test y)) xs) (filter (λ y. not (test y)) xs) ≡ x ∷ xs) [
        | true ↦ λ g. absurd (omega (arith, g))
        | false ↦ λ g. ap (λ ys. x ∷ ys) (none_passes xs g)
      ] h

  -- as many as there are
  pub without_all : (m : ℕ) (xs : List X) → length (filter test xs) ≤ m → without_first test m xs ≡ filter (λ x. not (test x)) xs
  without_all zero xs le = sym (none_passes xs le)
  without_all (suc m) [] le = refl
  without_all (suc m) (x ∷ xs) le =
      elim (test x) as (λ b. length (cond b (x ∷ filter test xs) (filter test xs)) ≤ suc m
      → (if b then without_first test m xs else x ∷ without_first test (suc m) xs)
      ≡ cond (not b) (x ∷ filter (λ y. not (test y)) xs) (filter (λ y. not (test y)) xs)) [
        | true ↦ λ h. without_all m xs (omega (arith, h))
        | false ↦ λ h. ap (λ ys. x ∷ ys) (without_all (suc m) xs h)
      ] le

pub take_whole : {X : Type 0} (m : ℕ) (xs : List X) → m ≡ length xs → take m xs ≡ xs
take_whole m xs e = take_all m xs (omega (arith, e))

-- ---- a turn of taking: what is taken and what is still to be

pub record IsTaking {X : Type 0} (test : X → Bool) (most : ℕ) (old now taken : List X) : Type 0 where
  pub fits : length taken ≤ most
  pub own : taken ++ take (most - length taken) (filter test now) ≡ take most (filter test old)
  pub rest : without_first test (most - length taken) now ≡ without_first test most old

pub taking_begun : {X : Type 0} (test : X → Bool) (most : ℕ) (old : List X) → IsTaking test most old old []
taking_begun test most old = record {
  fits = omega arith;
  own = ap (λ m. take m (filter test old)) (whole most);
  rest = ap (λ m. without_first test m old) (whole most);
}
  where
    whole : (m : ℕ) → m - 0 ≡ m
    whole m = omega arith

pub taking_more : {X : Type 0} (test : X → Bool) (most : ℕ) (old now left taken more : List X) (x : X) → length taken < most
    → filter test now ≡ x ∷ filter test left → left ≡ without_first test 1 now → more ≡ taken ++ x ∷ []
    → IsTaking test most old now taken → IsTaking test most old left more
taking_more test most old now left taken more x lt first gone added h =
    let longer : length more ≡ length taken + 1 = ap length added ∙ length-append taken (x ∷ []) in
    let step : most - length taken ≡ suc (most - length more) = omega (arith, lt, longer) in
    record {
      fits = omega (arith, lt, longer);
      own =
          ap (λ ys. ys ++ take (most - length more) (filter test left)) added
          ∙ append_assoc taken (x ∷ []) (take (most - length more) (filter test left))
          ∙ ap (λ ys. taken ++ ys) (sym (ap (λ m. take m (filter test now)) step ∙ ap (take (suc (most - length more))) first))
          ∙ h.own;
      rest =
          ap (without_first test (most - length more)) gone ∙ one_then test (most - length more) now
          ∙ ap (λ m. without_first test m now) (sym step) ∙ h.rest;
    }

-- where none is left, or so many are taken
take_none : {X : Type 0} (m : ℕ) (xs : List X) → xs ≡ [] → take m xs ≡ []
take_none zero xs none = refl
take_none (suc m) xs none = ap (take (suc m)) none

pub taken_all : {X : Type 0} (test : X → Bool) (most : ℕ) (old now taken : List X) → filter test now ≡ []
    → IsTaking test most old now taken → (taken ≡ take most (filter test old)) × (now ≡ without_first test most old)
taken_all test most old now taken none h =
    let len = ap length none in (
      sym (append-nil taken) ∙ ap (λ ys. taken ++ ys) (sym (take_none (most - length taken) (filter test now) none)) ∙ h.own,
      sym (none_passes test now (omega (arith, len))) ∙ sym (without_all test (most - length taken) now (omega (arith, len))) ∙ h.rest,
    )

pub taken_most : {X : Type 0} (test : X → Bool) (most : ℕ) (old now taken : List X) → most ≤ length taken
    → IsTaking test most old now taken → (taken ≡ take most (filter test old)) × (now ≡ without_first test most old)
taken_most test most old now taken full h =
    let none : most - length taken ≡ 0 = omega (arith, full) in (
      sym (append-nil taken) ∙ ap (λ m. taken ++ take m (filter test now)) (sym none) ∙ h.own,
      ap (λ m. without_first test m now) (sym none) ∙ h.rest,
    )
