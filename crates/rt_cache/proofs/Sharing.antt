-- Keys that paths share: so many as a path shares with two others all share that stand between these.
use Rattle.std.proofs.Common.{◌≡◌, ℕ, zero, suc, ◌<◌, ◌≤◌, arith, length, get_or, drop, Bool, true, false, ◌&&◌}
use Rattle.std.proofs.Common.{nat_lt, [], ◌∷◌, List, refl, sym, ap, subst, ◌∙◌}
use Rattle.std.proofs.lemmas.Bool.{ltb-true, ltb-false, lt-ltb}
use mathlib.Core.Bool.{true≢false}
use lib.Dec.{T}
use Rattle.std.specs.declared.cmp.Ordering.{Ordering}
use Rattle.std.specs.declared.cmp.Ordering.TheVariants.{Less, Equal, Greater}
use Rattle.std.specs.Ordering.{is_lt, is_eq, ordering_then, ordering_reverse}
use Rattle.std.specs.Cmp.Lexicographic.{nat_list_cmp_total}
use Rattle.std.specs.FinMap as map_of
use Rattle.rt_tree.specs.PathTree.{Key, Path, path_cmp, key_cmp, key_eq, key_eq-is}
use Rattle.rt_cache.specs.declared.regions.Region.{Region}
use Rattle.rt_cache.specs.inside.Held.{pairs_of}
use Rattle.rt_cache.specs.inside.Shared.{do_share}
use Rattle.rt_cache.proofs.Halves.{first, second, below_at}

-- ---- booleans

left_of : (a b : Bool) → (a && b) ≡ true → a ≡ true
left_of true b e = refl
left_of false b e = e

right_of : (a b : Bool) → (a && b) ≡ true → b ≡ true
right_of true b e = e
right_of false b e = absurd (true≢false (sym e))

-- ---- two paths

pub share_within : (n : ℕ) (p q : Path) → do_share n p q ≡ true → n ≤ length p
share_within zero p q e = omega arith
share_within (suc n) [] q e = absurd (true≢false (sym e))
share_within (suc n) (k ∷ p) [] e = absurd (true≢false (sym e))
share_within (suc n) (k ∷ p) (j ∷ q) e =
    let h : n ≤ length p = share_within n p q (right_of (key_eq k j) _ e) in
    omega (arith, h)

pub share_within_other : (n : ℕ) (p q : Path) → do_share n p q ≡ true → n ≤ length q
share_within_other zero p q e = omega arith
share_within_other (suc n) [] q e = absurd (true≢false (sym e))
share_within_other (suc n) (k ∷ p) [] e = absurd (true≢false (sym e))
share_within_other (suc n) (k ∷ p) (j ∷ q) e =
    let h : n ≤ length q = share_within_other n p q (right_of (key_eq k j) _ e) in
    omega (arith, h)

pub share_fewer : (m n : ℕ) (p q : Path) → n ≤ m → do_share m p q ≡ true → do_share n p q ≡ true
share_fewer m zero p q le e = refl
share_fewer zero (suc n) p q le e = absurd (omega (arith, le))
share_fewer (suc m) (suc n) [] q le e = absurd (true≢false (sym e))
share_fewer (suc m) (suc n) (k ∷ p) [] le e = absurd (true≢false (sym e))
share_fewer (suc m) (suc n) (k ∷ p) (j ∷ q) le e =
    let rest : do_share n p q ≡ true = share_fewer m n p q (omega (arith, le)) (right_of (key_eq k j) _ e) in
    (λ i. left_of (key_eq k j) _ e i && rest i)

-- one key more
pub share_more : (n : ℕ) (p q : Path) (d f : Key) → do_share n p q ≡ true → n < length p → n < length q
    → key_cmp (get_or p n d) (get_or q n f) ≡ Equal → do_share (suc n) p q ≡ true
share_more zero [] q d f e lp lq o = absurd (omega (arith, lp))
share_more zero (k ∷ p) [] d f e lp lq o = absurd (omega (arith, lq))
share_more zero (k ∷ p) (j ∷ q) d f e lp lq o = ap (λ x. is_eq x && true) o
share_more (suc n) [] q d f e lp lq o = absurd (true≢false (sym e))
share_more (suc n) (k ∷ p) [] d f e lp lq o = absurd (true≢false (sym e))
share_more (suc n) (k ∷ p) (j ∷ q) d f e lp lq o =
    let rest : do_share (suc n) p q ≡ true = share_more n p q d f (right_of (key_eq k j) _ e) (omega (arith, lp)) (omega (arith, lq)) o in
    (λ i. left_of (key_eq k j) _ e i && rest i)

-- paths that share their first keys are in the order of what follows
pub cmp_behind : (n : ℕ) (p q : Path) → do_share n p q ≡ true → path_cmp p q ≡ path_cmp (drop n p) (drop n q)
cmp_behind zero p q e = refl
cmp_behind (suc n) [] q e = absurd (true≢false (sym e))
cmp_behind (suc n) (k ∷ p) [] e = absurd (true≢false (sym e))
cmp_behind (suc n) (k ∷ p) (j ∷ q) e =
    elim (key_cmp k j) as (λ o. is_eq o ≡ true → ordering_then o (path_cmp p q) ≡ path_cmp (drop n p) (drop n q)) [
      | Less ↦ λ x. absurd (true≢false (sym x))
      | Equal ↦ λ x. cmp_behind n p q (right_of (key_eq k j) _ e)
      | Greater ↦ λ x. absurd (true≢false (sym x))
    ] (left_of (key_eq k j) _ e)

-- the first key that differs decides
pub decided : (n : ℕ) (p q : Path) (d g : Key) (o : Ordering) → do_share n p q ≡ true → n < length p → n < length q
    → key_cmp (get_or p n d) (get_or q n g) ≡ o → is_eq o ≡ false → path_cmp p q ≡ o
decided zero [] q d g o e lp lq h f = absurd (omega (arith, lp))
decided zero (k ∷ p) [] d g o e lp lq h f = absurd (omega (arith, lq))
decided zero (k ∷ p) (j ∷ q) d g o e lp lq h f =
    ap (λ x. ordering_then x (path_cmp p q)) h ∙ alone o (path_cmp p q) f
  where
    alone : (o x : Ordering) → is_eq o ≡ false → ordering_then o x ≡ o
    alone Less x g = refl
    alone Equal x g = absurd (true≢false g)
    alone Greater x g = refl
decided (suc n) [] q d g o e lp lq h f = absurd (true≢false (sym e))
decided (suc n) (k ∷ p) [] d g o e lp lq h f = absurd (true≢false (sym e))
decided (suc n) (k ∷ p) (j ∷ q) d g o e lp lq h f =
    elim (key_cmp k j) as (λ x. is_eq x ≡ true → ordering_then x (path_cmp p q) ≡ o) [
      | Less ↦ λ x. absurd (true≢false (sym x))
      | Equal ↦ λ x. decided n p q d g o (right_of (key_eq k j) _ e) (omega (arith, lp)) (omega (arith, lq)) h f
      | Greater ↦ λ x. absurd (true≢false (sym x))
    ] (left_of (key_eq k j) _ e)

-- where one path ends, the shorter comes first
pub ended_before : (n : ℕ) (p q : Path) → do_share n p q ≡ true → length p ≤ n → n < length q
    → is_lt (path_cmp p q) ≡ true
ended_before n [] [] e lp lq = absurd (omega (arith, lq))
ended_before n [] (j ∷ q) e lp lq = refl
ended_before zero (k ∷ p) q e lp lq = absurd (omega (arith, lp))
ended_before (suc n) (k ∷ p) [] e lp lq = absurd (omega (arith, lq))
ended_before (suc n) (k ∷ p) (j ∷ q) e lp lq =
    elim (key_cmp k j) as (λ x. is_eq x ≡ true → is_lt (ordering_then x (path_cmp p q)) ≡ true) [
      | Less ↦ λ x. refl
      | Equal ↦ λ x. ended_before n p q (right_of (key_eq k j) _ e) (omega (arith, lp)) (omega (arith, lq))
      | Greater ↦ λ x. absurd (true≢false (sym x))
    ] (left_of (key_eq k j) _ e)

pub ended_behind : (n : ℕ) (p q : Path) → do_share n p q ≡ true → length q ≤ n
    → is_lt (path_cmp p q) ≡ false
ended_behind n [] [] e lq = refl
ended_behind n (k ∷ p) [] e lq = refl
ended_behind zero p (j ∷ q) e lq = absurd (omega (arith, lq))
ended_behind (suc n) [] (j ∷ q) e lq = absurd (true≢false (sym e))
ended_behind (suc n) (k ∷ p) (j ∷ q) e lq =
    elim (key_cmp k j) as (λ x. is_eq x ≡ true → is_lt (ordering_then x (path_cmp p q)) ≡ false) [
      | Less ↦ λ x. absurd (true≢false (sym x))
      | Equal ↦ λ x. ended_behind n p q (right_of (key_eq k j) _ e) (omega (arith, lq))
      | Greater ↦ λ x. refl
    ] (left_of (key_eq k j) _ e)

at_most : (a n : ℕ) → (n < a → ⊥) → a ≤ n
at_most a n h = elim (nat_lt n a) as (λ b. nat_lt n a ≡ b → a ≤ n) [ true ↦ λ e. absurd (h (ltb-true n a e)) | false ↦ λ e. ltb-false n a e ] refl

-- where one ends, the shorter comes first, and else neither
pub ended : (n : ℕ) (p q : Path) → do_share n p q ≡ true → (n < length p → n < length q → ⊥)
    → nat_lt (length p) (length q) ≡ is_lt (path_cmp p q)
ended n p q e end =
    let within : n ≤ length p = share_within n p q e in
    let within_other : n ≤ length q = share_within_other n p q e in
    elim (nat_lt (length p) (length q)) as (λ b. nat_lt (length p) (length q) ≡ b → b ≡ is_lt (path_cmp p q)) [
      | true ↦ λ h.
          let lt : length p < length q = ltb-true (length p) (length q) h in
          let there : n < length q = omega (arith, lt, within) in
          sym (ended_before n p q e (at_most (length p) n (λ l. end l there)) there)
      | false ↦ λ h.
          let le : length q ≤ length p = at_most (length q) (length p) (λ l. true≢false (sym (lt-ltb (length p) (length q) l) ∙ h)) in
          sym (ended_behind n p q e (at_most (length q) n (λ l. end (omega (arith, l, le)) l)))
    ] refl

-- ---- three paths in order

-- behind a key that the outer two share, the middle one has it too
same_head : (n : ℕ) (k z : Key) (p a m c : Path) → (is_lt (path_cmp a m) ≡ true → is_lt (path_cmp m c) ≡ true → do_share n p m ≡ true)
    → is_lt (ordering_then (key_cmp k z) (path_cmp a m)) ≡ true → is_lt (ordering_then (key_cmp z k) (path_cmp m c)) ≡ true
    → (key_eq k z && do_share n p m) ≡ true
same_head n k z p a m c rest below above =
    let back : key_cmp z k ≡ ordering_reverse (key_cmp k z) = nat_list_cmp_total.antisymm z k in
    elim (key_cmp k z) as (λ o. is_lt (ordering_then o (path_cmp a m)) ≡ true → is_lt (ordering_then (ordering_reverse o) (path_cmp m c)) ≡ true → (is_eq o && do_share n p m) ≡ true) [
      | Less ↦ λ x y. absurd (true≢false (sym y))
      | Equal ↦ λ x y. rest x y
      | Greater ↦ λ x y. absurd (true≢false (sym x))
    ] below (subst (λ o. is_lt (ordering_then o (path_cmp m c)) ≡ true) back above)

-- what a path shares with two others it shares with what stands between them
pub share_between : (n : ℕ) (p a m c : Path) → do_share n p a ≡ true → do_share n p c ≡ true
    → is_lt (path_cmp a m) ≡ true → is_lt (path_cmp m c) ≡ true → do_share n p m ≡ true
share_between zero p a m c e f below above = refl
share_between (suc n) [] a m c e f below above = absurd (true≢false (sym e))
share_between (suc n) (k ∷ p) [] m c e f below above = absurd (true≢false (sym e))
share_between (suc n) (k ∷ p) (x ∷ a) m [] e f below above = absurd (true≢false (sym f))
share_between (suc n) (k ∷ p) (x ∷ a) [] (y ∷ c) e f below above = absurd (true≢false (sym below))
share_between (suc n) (k ∷ p) (x ∷ a) (z ∷ m) (y ∷ c) e f below above =
    let x_is : k ≡ x = key_eq-is k x (left_of (key_eq k x) _ e) in
    let y_is : k ≡ y = key_eq-is k y (left_of (key_eq k y) _ f) in
    same_head n k z p a m c
    (λ g h. share_between n p a m c (right_of (key_eq k x) _ e) (right_of (key_eq k y) _ f) g h)
    (subst (λ t. is_lt (ordering_then (key_cmp t z) (path_cmp a m)) ≡ true) (sym x_is) below)
    (subst (λ t. is_lt (ordering_then (key_cmp z t) (path_cmp m c)) ≡ true) (sym y_is) above)

-- ---- regions in order

pub in_order : (rs : List Region) (i j : ℕ) (d : Region) → T (map_of.is_sorted path_cmp (pairs_of rs)) → i < j → j < length rs
    → is_lt (path_cmp (get_or rs i d).path (get_or rs j d).path) ≡ true
in_order [] i j d s lt within = absurd (omega (arith, within))
in_order (r ∷ rs) i zero d s lt within = absurd (omega (arith, lt))
in_order (r ∷ rs) zero (suc j) d s lt within = below_at r.path rs j d (first _ _ s) (omega (arith, within))
in_order (r ∷ rs) (suc i) (suc j) d s lt within = in_order rs i j d (second _ _ s) (omega (arith, lt)) (omega (arith, within))

-- the keys known at both ends of what is left are known in the middle
pub share_middle : (p : Path) (rs : List Region) (low high middle a b n : ℕ) (d : Region) → T (map_of.is_sorted path_cmp (pairs_of rs))
    → low ≤ middle → middle < high → high ≤ length rs → n ≤ a → n ≤ b
    → (1 ≤ a → 1 ≤ low) → ((k : ℕ) (d : Region) → suc k ≡ low → do_share a p (get_or rs k d).path ≡ true)
    → (1 ≤ b → high < length rs) → ((d : Region) → high < length rs → do_share b p (get_or rs high d).path ≡ true)
    → do_share n p (get_or rs middle d).path ≡ true
share_middle p rs low high middle a b zero d s l h w na nb some_below below some_above above = refl
share_middle p rs zero high middle a b (suc n) d s l h w na nb some_below below some_above above =
    absurd (omega (arith, some_below (omega (arith, na))))
share_middle p rs (suc low) high middle a b (suc n) d s l h w na nb some_below below some_above above =
    let there : high < length rs = some_above (omega (arith, nb)) in
    share_between (suc n) p (get_or rs low d).path (get_or rs middle d).path (get_or rs high d).path
    (share_fewer a (suc n) p _ na (below low d refl)) (share_fewer b (suc n) p _ nb (above d there))
    (in_order rs low middle d s (omega (arith, l)) (omega (arith, h, w))) (in_order rs middle high d s h there)
