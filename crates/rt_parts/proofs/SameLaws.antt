-- Lists with the same members as another, whose elements are read from a third.
use Rattle.std.proofs.Common.{◌≡◌, ◌<◌, Bool, true, false, cond, not, ◌||◌, ◌&&◌, List, [], ◌∷◌, ◌++◌, length, get_or, map, refl, sym, ap, ◌∙◌, arith}
use mathlib.Core.Bool.{true≢false}
use Rattle.std.specs.List.{filter, list_any, All}
use Rattle.std.proofs.lemmas.List.{get_or-map, length-map}
use Rattle.std.proofs.lemmas.List.Elements.{All-head, All-tail}
use Rattle.std.proofs.lemmas.List.Folds.{list_any_at, Any-from_list_any}

and_first : (a b : Bool) → (a && not b) ≡ true → a ≡ true
and_first true b e = refl
and_first false b e = e

and_second : (a b : Bool) → (a && not b) ≡ true → b ≡ false
and_second true true e = absurd (true≢false (sym e))
and_second true false e = refl
and_second false b e = absurd (true≢false (sym e))

pub any_filter : {X : Type 0} (p q : X → Bool) (xs : List X) → list_any p (filter q xs) ≡ list_any (λ x. q x && p x) xs
any_filter p q [] = refl
any_filter p q (x ∷ xs) = elim (q x) as (λ b. list_any p (cond b (x ∷ filter q xs) (filter q xs)) ≡ ((b && p x) || list_any (λ y. q y && p y) xs)) [
  | true ↦ ap (λ b. p x || b) (any_filter p q xs)
  | false ↦ any_filter p q xs
]

module _ {W X : Type 0} (g : W → X) where
  abbrev pub AreSame : List X → List W → Type 0
  AreSame xs ws = (p : X → Bool) → list_any p xs ≡ list_any p (map g ws)

  any_more : (p : X → Bool) (ws : List W) (w : W) → list_any p (map g (ws ++ w ∷ [])) ≡ (p (g w) || list_any p (map g ws))
  any_more p [] w = refl
  any_more p (v ∷ ws) w = ap (λ b. p (g v) || b) (any_more p ws w) ∙ swapped (p (g v)) (p (g w)) (list_any p (map g ws))
    where
      swapped : (a b c : Bool) → (a || (b || c)) ≡ (b || (a || c))
      swapped true true c = refl
      swapped true false c = refl
      swapped false b c = refl

  -- one more
  pub same_more : (xs new : List X) (ws : List W) (w : W) → AreSame xs ws → ((p : X → Bool) → list_any p new ≡ (p (g w) || list_any p xs)) → AreSame new (ws ++ w ∷ [])
  same_more xs new ws w same more p = more p ∙ ap (λ b. p (g w) || b) (same p) ∙ sym (any_more p ws w)

  -- those that pass
  pub same_filter : (q : X → Bool) (r : W → Bool) (xs : List X) (ws : List W) → All (λ w. q (g w) ≡ r w) ws → AreSame xs ws → AreSame (filter q xs) (filter r ws)
  same_filter q r xs ws agree same p = any_filter p q xs ∙ same (λ x. q x && p x) ∙ sym (kept ws agree)
    where
      kept : (vs : List W) → All (λ w. q (g w) ≡ r w) vs → list_any p (map g (filter r vs)) ≡ list_any (λ x. q x && p x) (map g vs)
      kept [] a = refl
      kept (v ∷ vs) a =
          ap (λ b. list_any p (map g (cond b (v ∷ filter r vs) (filter r vs)))) (sym (All-head (λ w. q (g w) ≡ r w) v vs a))
          ∙ elim (q (g v)) as (λ b. list_any p (map g (cond b (v ∷ filter r vs) (filter r vs))) ≡ ((b && p (g v)) || list_any (λ x. q x && p x) (map g vs))) [
            | true ↦ ap (λ b. p (g v) || b) (kept vs (All-tail (λ w. q (g w) ≡ r w) v vs a))
            | false ↦ kept vs (All-tail (λ w. q (g w) ≡ r w) v vs a)
          ]

  -- what is read stays the same
  pub same_read : (xs : List X) (ws vs : List W) → map g vs ≡ map g ws → AreSame xs ws → AreSame xs vs
  same_read xs ws vs e same p = same p ∙ ap (list_any p) (sym e)

  -- what holds of each of the ones holds of each of the others
  pub same_known : (a b : X → Bool) (xs : List X) (ws : List W) → AreSame xs ws → All (λ x. a x ≡ true → b x ≡ true) xs → All (λ w. a (g w) ≡ true → b (g w) ≡ true) ws
  same_known a b xs ws same h k d lt e = elim (b (g (get_or ws k d))) as (λ z. b (g (get_or ws k d)) ≡ z → z ≡ true) [
    | true ↦ λ f. refl
    | false ↦ λ f.
        let read : get_or (map g ws) k (g d) ≡ g (get_or ws k d) = get_or-map g ws k d (g d) lt in
        let there : k < length (map g ws) = omega (arith, lt, length-map ws g) in
        let some : list_any (λ x. a x && not (b x)) (map g ws) ≡ true = list_any_at (λ x. a x && not (b x)) (map g ws) k (g d) there
        (ap (λ x. a x && not (b x)) read ∙ ap (λ z. z && not (b (g (get_or ws k d)))) e ∙ ap not f) in
        let at = Any-from_list_any (λ x. a x && not (b x)) xs (same (λ x. a x && not (b x)) ∙ some) in
        let holds : b (get_or xs at.0 at.1) ≡ true = h at.0 at.1 at.2 (ap a at.3 ∙ and_first (a at.1) (b at.1) at.4) in
        absurd (true≢false (sym holds ∙ ap b at.3 ∙ and_second (a at.1) (b at.1) at.4))
  ] refl

  all_pass : (b : X → Bool) (vs : List W) → All (λ w. b (g w) ≡ true) vs → list_any (λ x. not (b x)) (map g vs) ≡ false
  all_pass b [] a = refl
  all_pass b (v ∷ vs) a = ap (λ z. not z || list_any (λ x. not (b x)) (map g vs)) (All-head (λ w. b (g w) ≡ true) v vs a) ∙ all_pass b vs (All-tail (λ w. b (g w) ≡ true) v vs a)

  pub same_known_back : (b : X → Bool) (xs : List X) (ws : List W) → AreSame xs ws → All (λ w. b (g w) ≡ true) ws → All (λ x. b x ≡ true) xs
  same_known_back b xs ws same h k d lt = elim (b (get_or xs k d)) as (λ z. b (get_or xs k d) ≡ z → z ≡ true) [
    | true ↦ λ f. refl
    | false ↦ λ f. absurd (true≢false (sym (list_any_at (λ x. not (b x)) xs k d lt (ap not f)) ∙ same (λ x. not (b x)) ∙ all_pass b ws h))
  ] refl
