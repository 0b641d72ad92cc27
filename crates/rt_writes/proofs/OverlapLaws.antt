-- Entries in the order of their paths: all that are at or below a path stand right behind it.
use Rattle.std.proofs.Common.{◌≡◌, ℕ, zero, suc, ◌<◌, ◌≤◌, get_or, drop, length, Bool, true, false, cond, ◌||◌, List, [], ◌∷◌, map, Option, None, is_some, refl, sym, ap, subst, ◌∙◌, arith}
use Rattle.std.specs.Borrow.{Bor}
use Rattle.std.specs.declared.cmp.Ordering.{Ordering}
use Rattle.std.specs.declared.cmp.Ordering.TheVariants.{Less, Equal, Greater}
use Rattle.std.specs.Ordering.{is_lt, is_eq, ordering_then, ordering_reverse}
use Rattle.std.specs.Cmp.{IsStrictWeakOrder, tied_itself}
use Rattle.std.specs.Cmp.Lexicographic.{nat_list_cmp_total}
use Rattle.std.specs.List.{All, AllByRecursion, IsDistinct, list_any}
use Rattle.std.specs.List.Sorted.{IsPermutation, IsSortedBy}
use Rattle.std.proofs.Math.Bool.{or_comm}
use Rattle.std.proofs.lemmas.Bool.{or_parts, or_from}
use Rattle.std.proofs.lemmas.List.Elements.{All-tail}
use Rattle.std.proofs.lemmas.List.Sorted.{ranks_by, sorted_far, IsPermutation-sym}
use Rattle.std.proofs.lemmas.Map.Keys.{IsDistinct-IsPermutation}
use Rattle.rt_tree.specs.Leaves.{Path, key_cmp, path_cmp, key_eq, strip}
use Rattle.rt_tree.specs.laws.Prefixes.{paths_total, key_eq-is, key_eq-symm}
use Rattle.rt_tree.specs.Assignments.{Assignment, do_overlap, have_overlap}
use Rattle.rt_writes.specs.inside.Sorted.{AreInOrder}

-- ---- three paths in order
first_keys : (o x y : Ordering) (s : Option Path) → is_lt (ordering_then o x) ≡ false → is_lt (ordering_then (ordering_reverse o) y) ≡ false
    → is_some (cond (is_eq (ordering_reverse o)) s None) ≡ false → (is_some s ≡ false) × (is_lt x ≡ false) × (is_lt y ≡ false)
first_keys Less x y s a b n = cc
first_keys Equal x y s a b n = (n, a, b)
first_keys Greater x y s a b n = cc

-- q stands behind p and is not under it: nor is what stands behind q, and p is not under that
pub apart_behind : (p q r : Path) → is_some (strip p q) ≡ false → is_lt (path_cmp q p) ≡ false → is_lt (path_cmp r q) ≡ false → do_overlap p r ≡ false
apart_behind [] q r n a b = cc
apart_behind (k ∷ p) [] r n a b = cc
apart_behind (k ∷ p) (j ∷ q) [] n a b = cc
apart_behind (k ∷ p) (j ∷ q) (i ∷ r) n a b =
    elim (key_eq k i) as (λ t. key_eq k i ≡ t → (is_some (cond t (strip p r) None) || is_some (cond (key_eq i k) (strip r p) None)) ≡ false) [
      | false ↦ λ e. ap (λ t. is_some (cond t (strip r p) None)) (key_eq-symm i k ∙ e)
      | true ↦ λ e.
          let turned : key_cmp k j ≡ ordering_reverse (key_cmp j k) = nat_list_cmp_total.antisymm k j in
          let back : is_lt (ordering_then (key_cmp k j) (path_cmp r q)) ≡ false = subst (λ x. is_lt (ordering_then (key_cmp x j) (path_cmp r q)) ≡ false) (sym (key_eq-is k i e)) b in
          let rest = first_keys (key_cmp j k) (path_cmp q p) (path_cmp r q) (strip p q) a
          (subst (λ o. is_lt (ordering_then o (path_cmp r q)) ≡ false) turned back)
          (subst (λ o. is_some (cond (is_eq o) (strip p q) None) ≡ false) turned n) in
          ap (λ t. is_some (strip p r) || is_some (cond t (strip r p) None)) (key_eq-symm i k ∙ e)
          ∙ apart_behind p q r rest.0 rest.1 rest.2
    ] refl

-- ---- entries in order
abbrev pub seen : List (Bor Assignment) → List Assignment
seen es = map (λ (e : Bor Assignment). e.now) es

pub in_order-tail : (e : Bor Assignment) (es : List (Bor Assignment)) → AreInOrder (e ∷ es) → AreInOrder es
in_order-tail e es up i j d below inside = up (suc i) (suc j) d (omega arith) (omega arith)

none_from : (p q : Path) (es : List (Bor Assignment)) → is_some (strip p q) ≡ false → is_lt (path_cmp q p) ≡ false → All (λ (e : Bor Assignment). is_lt (path_cmp e.now.0 q) ≡ false) es
    → list_any (λ (b : Assignment). do_overlap p b.0) (seen es) ≡ false
none_from p q [] n a behind = refl
none_from p q (e ∷ es) n a behind =
    or_from (do_overlap p e.now.0) _ (apart_behind p q e.now.0 n a (behind zero e (omega arith)))
    (none_from p q es n a (All-tail (λ (x : Bor Assignment). is_lt (path_cmp x.now.0 q) ≡ false) e es behind))

-- the next one is not under the first: the first overlaps none
pub first_apart : (a b : Bor Assignment) (es : List (Bor Assignment)) → AreInOrder (a ∷ b ∷ es) → is_some (strip a.now.0 b.now.0) ≡ false
    → have_overlap (seen (a ∷ b ∷ es)) ≡ have_overlap (seen (b ∷ es))
first_apart a b es up n =
    let next : is_lt (path_cmp b.now.0 a.now.0) ≡ false = up zero (suc zero) a (omega arith) (omega arith) in
    let here : do_overlap a.now.0 b.now.0 ≡ false = apart_behind a.now.0 b.now.0 b.now.0 n next (at_itself b.now.0) in
    let behind : All (λ (e : Bor Assignment). is_lt (path_cmp e.now.0 b.now.0) ≡ false) es = λ k d l. up (suc zero) (suc (suc k)) d (omega arith) (omega arith) in
    let all = or_from (do_overlap a.now.0 b.now.0) _ here (none_from a.now.0 b.now.0 es n next behind) in
    ap (λ t. t || have_overlap (seen (b ∷ es))) all
  where
    at_itself : (q : Path) → is_lt (path_cmp q q) ≡ false
    at_itself q = ap is_lt (tied_itself paths_total q)

-- ---- what is left from a place on
from_next : (es : List (Bor Assignment)) (i : ℕ) (d e : Bor Assignment) → AreInOrder es → suc i < length es → is_some (strip (get_or es i d).now.0 (get_or es (suc i) e).now.0) ≡ false
    → have_overlap (seen (drop i es)) ≡ have_overlap (seen (drop (suc i) es))
from_next [] i d e up inside n = let no : ⊥ = omega arith in absurd no
from_next (x ∷ []) zero d e up inside n = let no : ⊥ = omega arith in absurd no
from_next (x ∷ y ∷ es) zero d e up inside n = first_apart x y es up n
from_next (x ∷ es) (suc i) d e up inside n = from_next es i d e (in_order-tail x es up) (omega arith) n

pub at_end : (es : List (Bor Assignment)) (i : ℕ) → length es ≤ suc i → have_overlap (seen (drop i es)) ≡ false
at_end [] zero inside = refl
at_end [] (suc i) inside = refl
at_end (x ∷ []) zero inside = refl
at_end (x ∷ y ∷ es) zero inside = let no : ⊥ = omega arith in absurd no
at_end (x ∷ es) (suc i) inside = at_end es i (omega arith)

pub none_there : (es : List (Bor Assignment)) (i j : ℕ) (d e : Bor Assignment) → AreInOrder es → suc i ≡ j → j < length es → is_some (strip (get_or es i d).now.0 (get_or es j e).now.0) ≡ false
    → have_overlap (seen (drop i es)) ≡ have_overlap (seen (drop j es))
none_there es i j d e up behind inside n =
    from_next es i d e up (omega arith) (subst (λ k. is_some (strip (get_or es i d).now.0 (get_or es k e).now.0) ≡ false) (sym behind) n)
    ∙ ap (λ k. have_overlap (seen (drop k es))) behind

-- ---- what a sort ensures
abbrev pub is_before : Bor Assignment → Bor Assignment → Bool
is_before a b = is_lt (path_cmp a.now.0 b.now.0)

pub before_ranks : IsStrictWeakOrder is_before
before_ranks = ranks_by paths_total (λ (e : Bor Assignment). e.now.0)

pub in_order : (es : List (Bor Assignment)) → IsSortedBy is_before es → AreInOrder es
in_order es sorted i j d below inside = sorted_far is_before before_ranks es sorted i j d (omega arith) inside

-- ---- the same entries in another order
abbrev test : Assignment → Assignment → Bool
test a b = do_overlap a.0 b.0

each_apart : (a : Assignment) (es : List Assignment) → list_any (test a) es ≡ false → AllByRecursion (λ b. test a b ≡ false) es
each_apart a [] h = tt
each_apart a (b ∷ es) h = let parts = or_parts (test a b) (list_any (test a) es) h in (parts.0, each_apart a es parts.1)

none_passes : (a : Assignment) (es : List Assignment) → AllByRecursion (λ b. test a b ≡ false) es → list_any (test a) es ≡ false
none_passes a [] h = refl
none_passes a (b ∷ es) h = or_from (test a b) (list_any (test a) es) h.0 (none_passes a es h.1)

all_apart : (es : List Assignment) → have_overlap es ≡ false → IsDistinct test es
unfolding IsDistinct
all_apart [] h = tt
all_apart (a ∷ es) h = let parts = or_parts (list_any (test a) es) (have_overlap es) h in (each_apart a es parts.0, all_apart es parts.1)

none_overlap : (es : List Assignment) → IsDistinct test es → have_overlap es ≡ false
unfolding IsDistinct
none_overlap [] h = refl
none_overlap (a ∷ es) h = or_from (list_any (test a) es) (have_overlap es) (none_passes a es h.0) (none_overlap es h.1)

moved : (es fs : List Assignment) → IsPermutation es fs → have_overlap es ≡ false → have_overlap fs ≡ false
moved es fs p h = none_overlap fs (IsDistinct-IsPermutation test (λ a b. or_comm (is_some (strip a.0 b.0)) (is_some (strip b.0 a.0))) es fs p (all_apart es h))

same_answer : (s t : Bool) → (s ≡ false → t ≡ false) → (t ≡ false → s ≡ false) → s ≡ t
same_answer true true f g = refl
same_answer true false f g = g refl
same_answer false t f g = sym (f refl)

pub have_overlap-IsPermutation : (es fs : List Assignment) → IsPermutation es fs → have_overlap fs ≡ have_overlap es
have_overlap-IsPermutation es fs p = same_answer (have_overlap fs) (have_overlap es) (moved fs es (IsPermutation-sym es fs p)) (moved es fs p)
