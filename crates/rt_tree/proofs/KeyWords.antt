-- Keys compare as the numbers that their first bytes are.
use Rattle.std.proofs.Common.{◌≡◌, ◌∙◌, refl, sym, ap, subst, ℕ, zero, suc, ◌<◌, ◌≤◌, ◌+◌, ◌*◌, ◌%◌, ◌^◌, List, [], ◌∷◌, drop, length, get_or, true, false, Bool, Option, None, Some, if◌then◌else◌, arith}
use Rattle.std.specs.List.{list_all}
use Rattle.std.specs.Ordering.{nat_cmp, MatchOrdering, ordering_then, ordering_reverse}
use Rattle.std.specs.Cmp.{ranks, first_so, second_so}
use Rattle.std.specs.Cmp.Lexicographic.{slice_cmp, nat_list_cmp_total}
use Rattle.std.specs.declared.cmp.Ordering.TheVariants.{Less, Equal, Greater}
use Rattle.std.proofs.lemmas.Nat.{mod-mul-add}
use Rattle.std.proofs.Math.Nat.{pow-suc, pow-le-pow_right}
use Rattle.std.specs.Prelude.{nat_lt, ◌==◌}
use Rattle.rt_tree.specs.declared.limits.TheConstants.{MAX_KEY_BYTES}
use Rattle.rt_tree.specs.declared.error.TreeError.{TreeError}
use Rattle.rt_tree.specs.declared.error.TreeError.TheVariants.{BadKey, KeyTooLong}
use Rattle.rt_tree.specs.Key.{IsKey, is_allowed}
use Rattle.rt_tree.specs.inside.KeyWords.{IsPacked, IsWord, HasWords}

-- ---- no byte of a key is 0
abbrev pub NoZero : List ℕ → Type 0
NoZero [] = Unit {0}
NoZero (b ∷ bs) = (0 < b) × NoZero bs

above_zero : (b : ℕ) → is_allowed b ≡ true → 0 < b
above_zero zero h = absurd (cc h)
above_zero (suc b) h = omega arith

no_zero : (bs : List ℕ) → list_all is_allowed bs ≡ true → NoZero bs
no_zero [] h = tt
no_zero (b ∷ bs) h = (above_zero b (first_so (is_allowed b) (list_all is_allowed bs) h), no_zero bs (second_so (is_allowed b) (list_all is_allowed bs) h))

passed : (b : Bool) (e : TreeError) (r : Option TreeError) → (if b then Some e else r) ≡ None → r ≡ None
passed true e r h = absurd (cc h)
passed false e r h = h

last : (b : Bool) (e : TreeError) → (if b then None else Some e) ≡ None → b ≡ true
last true e h = refl
last false e h = absurd (cc h)

NoZero-key : (bs : List ℕ) → IsKey bs → NoZero bs
NoZero-key bs h =
    no_zero bs (last (list_all is_allowed bs) BadKey (passed (nat_lt MAX_KEY_BYTES (length bs)) KeyTooLong _ (passed (length bs == 0) BadKey _ h)))

NoZero-drop : (n : ℕ) (bs : List ℕ) → NoZero bs → NoZero (drop n bs)
NoZero-drop zero bs z = z
NoZero-drop (suc n) [] z = tt
NoZero-drop (suc n) (b ∷ bs) z = NoZero-drop n bs z.1

-- ---- what is packed
-- the next byte comes
pub packed-step : (bs : List ℕ) (at n a w : ℕ) → get_or bs at 0 < 256 → IsPacked (a * 256 + get_or bs at 0) n (drop (suc at) bs) w → IsPacked a (suc n) (drop at bs) w
packed-step [] zero n a w l p = subst (λ k. IsPacked k n [] w) (omega arith) p
packed-step [] (suc at) n a w l p = subst (λ k. IsPacked k n [] w) (omega arith) p
packed-step (b ∷ bs) zero n a w l p = (l, p)
packed-step (b ∷ bs) (suc at) n a w l p = packed-step bs at n a w l p

packed_below : (n a c : ℕ) (as' bs : List ℕ) (v w : ℕ) → IsPacked a n as' v → IsPacked c n bs w → a < c → v < w
packed_below zero a c as' bs v w p q l = omega (arith, p, q, l)
packed_below (suc n) a c [] [] v w p q l = packed_below n (a * 256) (c * 256) [] [] v w p q (omega (arith, l))
packed_below (suc n) a c [] (d ∷ bs) v w p q l = packed_below n (a * 256) (c * 256 + d) [] bs v w p q.1 (omega (arith, l))
packed_below (suc n) a c (b ∷ as') [] v w p q l = packed_below n (a * 256 + b) (c * 256) as' [] v w p.1 q (omega (arith, l, p.0))
packed_below (suc n) a c (b ∷ as') (d ∷ bs) v w p q l = packed_below n (a * 256 + b) (c * 256 + d) as' bs v w p.1 q.1 (omega (arith, l, p.0))

-- of two texts the one with the less number is less
packed_less : (n a : ℕ) (as' bs : List ℕ) (v w : ℕ) → IsPacked a n as' v → IsPacked a n bs w → NoZero as' → NoZero bs → v < w → slice_cmp nat_cmp as' bs ≡ Less
packed_less zero a as' bs v w p q y z l = absurd (omega (arith, p, q, l))
packed_less (suc n) a [] [] v w p q y z l = packed_less n (a * 256) [] [] v w p q tt tt l
packed_less (suc n) a [] (d ∷ bs) v w p q y z l = refl
packed_less (suc n) a (b ∷ as') [] v w p q y z l = absurd (omega (arith, l, packed_below n (a * 256) (a * 256 + b) [] as' w v q p.1 (omega (arith, y.0))))
packed_less (suc n) a (b ∷ as') (d ∷ bs) v w p q y z l =
    elim (nat_cmp b d) as (λ o. MatchOrdering o (b < d) (b ≡ d) (d < b) → ordering_then o (slice_cmp nat_cmp as' bs) ≡ Less) [
      | Less ↦ λ h. refl
      | Equal ↦ λ h. packed_less n (a * 256 + b) as' bs v w p.1 (subst (λ x. IsPacked (a * 256 + x) n bs w) (sym h) q.1) y.1 z.1 l
      | Greater ↦ λ h. absurd (omega (arith, l, packed_below n (a * 256 + d) (a * 256 + b) bs as' w v q.1 p.1 (omega (arith, h))))
    ] (ranks b d)

-- where the numbers are equal, what is behind decides
packed_same : (n a : ℕ) (as' bs : List ℕ) (v w : ℕ) → IsPacked a n as' v → IsPacked a n bs w → NoZero as' → NoZero bs → v ≡ w → slice_cmp nat_cmp as' bs ≡ slice_cmp nat_cmp (drop n as') (drop n bs)
packed_same zero a as' bs v w p q y z e = refl
packed_same (suc n) a [] [] v w p q y z e = refl
packed_same (suc n) a [] (d ∷ bs) v w p q y z e = absurd (omega (arith, e, packed_below n (a * 256) (a * 256 + d) [] bs v w p q.1 (omega (arith, z.0))))
packed_same (suc n) a (b ∷ as') [] v w p q y z e = absurd (omega (arith, e, packed_below n (a * 256) (a * 256 + b) [] as' w v q p.1 (omega (arith, y.0))))
packed_same (suc n) a (b ∷ as') (d ∷ bs) v w p q y z e =
    elim (nat_cmp b d) as (λ o. MatchOrdering o (b < d) (b ≡ d) (d < b) → ordering_then o (slice_cmp nat_cmp as' bs) ≡ slice_cmp nat_cmp (drop n as') (drop n bs)) [
      | Less ↦ λ h. absurd (omega (arith, e, packed_below n (a * 256 + b) (a * 256 + d) as' bs v w p.1 q.1 (omega (arith, h))))
      | Equal ↦ λ h. packed_same n (a * 256 + b) as' bs v w p.1 (subst (λ x. IsPacked (a * 256 + x) n bs w) (sym h) q.1) y.1 z.1 e
      | Greater ↦ λ h. absurd (omega (arith, e, packed_below n (a * 256 + d) (a * 256 + b) bs as' w v q.1 p.1 (omega (arith, h))))
    ] (ranks b d)

-- where the last byte is missing, nothing is behind
packed_short : (n a : ℕ) (bs : List ℕ) (w : ℕ) → IsPacked a (suc n) bs w → NoZero bs → w % 256 ≡ 0 → drop (suc n) bs ≡ []
packed_short n a [] w p z h = refl
packed_short zero a (b ∷ bs) w p z h =
    let none : b ≡ 0 = sym (mod-mul-add a 256 b p.0) ∙ ap (λ k. k % 256) (sym p.1) ∙ h in
    absurd (omega (arith, none, z.0))
packed_short (suc n) a (b ∷ bs) w p z h = packed_short n (a * 256 + b) bs w p.1 z.1 h

-- ---- how two keys compare
less_is : (as' bs : List ℕ) (v w : ℕ) → IsWord as' v → IsWord bs w → NoZero as' → NoZero bs → (v ≡ w → ⊥) → slice_cmp nat_cmp as' bs ≡ nat_cmp v w
less_is as' bs v w p q y z n =
    elim (nat_cmp v w) as (λ o. MatchOrdering o (v < w) (v ≡ w) (w < v) → slice_cmp nat_cmp as' bs ≡ o) [
      | Less ↦ λ h. packed_less 8 0 as' bs v w p q y z h
      | Equal ↦ λ h. absurd (n h)
      | Greater ↦ λ h. nat_list_cmp_total.antisymm as' bs ∙ ap ordering_reverse (packed_less 8 0 bs as' w v q p z y h)
    ] (ranks v w)

module _ (as' bs : List ℕ) (h n k m : ℕ) (p : HasWords as' h n) (q : HasWords bs k m) (x : IsKey as') (y : IsKey bs) where
  -- by the first words where these differ
  pub cmp-head : (h ≡ k → ⊥) → slice_cmp nat_cmp as' bs ≡ nat_cmp h k
  cmp-head d = less_is as' bs h k p.0 q.0 (NoZero-key as' x) (NoZero-key bs y) d

  behind : h ≡ k → slice_cmp nat_cmp as' bs ≡ slice_cmp nat_cmp (drop 8 as') (drop 8 bs)
  behind e = packed_same 8 0 as' bs h k p.0 q.0 (NoZero-key as' x) (NoZero-key bs y) e

  -- else by the next words where these do
  pub cmp-next : h ≡ k → (n ≡ m → ⊥) → slice_cmp nat_cmp as' bs ≡ nat_cmp n m
  cmp-next e d = behind e ∙ less_is (drop 8 as') (drop 8 bs) n m p.1 q.1 (NoZero-drop 8 as' (NoZero-key as' x)) (NoZero-drop 8 bs (NoZero-key bs y)) d

  -- and where they have all of the texts, these are equal
  pub cmp-words : h ≡ k → n ≡ m → n % 256 ≡ 0 → slice_cmp nat_cmp as' bs ≡ Equal
  cmp-words e f s =
      behind e ∙ packed_same 8 0 (drop 8 as') (drop 8 bs) n m p.1 q.1 (NoZero-drop 8 as' (NoZero-key as' x)) (NoZero-drop 8 bs (NoZero-key bs y)) f
      ∙ (λ i. slice_cmp nat_cmp (packed_short 7 0 (drop 8 as') n p.1 (NoZero-drop 8 as' (NoZero-key as' x)) s i)
      (packed_short 7 0 (drop 8 bs) m q.1 (NoZero-drop 8 bs (NoZero-key bs y)) (ap (λ j. j % 256) (sym f) ∙ s) i))

-- ---- how a word is made
full : 256 ^ 8 ≡ 18446744073709551616
full = refl

-- one byte more is below the next power
pub word_grows : (k w b : ℕ) → w < 256 ^ k → b < 256 → w * 256 + b < 256 ^ suc k
word_grows k w b l m = omega (arith, pow-suc 256 k, l, m)

-- and while it is not the last, there is room for it
pub word_fits : (k w b : ℕ) → k < 8 → w < 256 ^ k → b < 256 → w * 256 + b < 18446744073709551616
word_fits k w b h l m = omega (arith, word_grows k w b l m, pow-le-pow_right {n = 256} (omega arith) {i = suc k} {j = 8} (omega (arith, h)), full)

-- nothing is behind the end
pub drop-past : (n : ℕ) (bs : List ℕ) → length bs ≤ n → drop n bs ≡ []
drop-past zero [] l = refl
drop-past zero (b ∷ bs) l = absurd (omega (arith, l))
drop-past (suc n) [] l = refl
drop-past (suc n) (b ∷ bs) l = drop-past n bs (omega (arith, l))
