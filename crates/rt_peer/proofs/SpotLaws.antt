-- Spots and owners in their orders, and what is gathered of them.
use Rattle.std.proofs.Common.{◌≡◌, ◌==◌, ℕ, suc, ◌+◌, ◌<◌, ◌≤◌, nat_lt, Bool, true, false, cond, not, ◌||◌, ◌&&◌, List, [], ◌∷◌, length, take, get_or, None, is_some, refl, sym, ap, subst, ◌∙◌, arith}
use mathlib.Core.Bool.{true≢false}
use Rattle.std.specs.List.{All, filter}
use Rattle.std.specs.List.Sorted.{IsStrictlySortedBy}
use Rattle.std.specs.Ordering.{nat_cmp, is_lt, is_le, is_eq, ordering_then, ordering_reverse}
use Rattle.std.specs.Cmp.{Equal-is, tied_itself}
use Rattle.std.specs.FinMap.{nat_cmp-IsAntisymmetric}
use Rattle.std.specs.declared.cmp.Ordering.{Ordering}
use Rattle.std.specs.declared.cmp.Ordering.TheVariants.{Less, Equal, Greater}
use Rattle.std.proofs.lemmas.List.Elements.{All-cons, All-head, All-tail, filter_passes}
use Rattle.std.proofs.lemmas.List.Kept.{IsStrictlySortedBy-filter}
use Rattle.std.proofs.lemmas.Map.Views.{All-after_first}
use Rattle.std.proofs.lemmas.Bool.Decides.{nat_tests}
use Rattle.rt_tree.specs.PathTree.{Path, path_cmp, path_eq, path_eq-same, paths_total, exact_paths, key_eq, key_eq-is, strip}
use Rattle.rt_tree.specs.Assignments.{is_at_or_above}
use Rattle.rt_peer.specs.declared.listens.Owner.{Owner}
use Rattle.rt_peer.specs.declared.listens.ListenKey.{ListenKey}
use Rattle.rt_peer.specs.inside.Spots.{owner_cmp, owners_total, spot_cmp, has_owner, is_above, is_in, overlaps}
use Rattle.rt_peer.specs.inside.Spots.{AreFound, AreKept}
use Rattle.rt_peer.proofs.PathRuns.{above_first, above_itself, under_from, same_from}

-- ---- tests

less_of : (m n : ℕ) → nat_lt m n ≡ true → m < n
less_of m n e = grind (arith, nat_tests)

not_less : (m n : ℕ) → nat_lt m n ≡ false → n ≤ m
not_less m n e = grind (arith, nat_tests)

is_less : (m n : ℕ) → m < n → nat_lt m n ≡ true
is_less m n h = grind (arith, nat_tests)

no_less : (m n : ℕ) → n ≤ m → nat_lt m n ≡ false
no_less m n h = grind (arith, nat_tests)

first_true : (a b : Bool) → (a && b) ≡ true → a ≡ true
first_true true b e = refl
first_true false b e = e

second_true : (a b : Bool) → (a && b) ≡ true → b ≡ true
second_true true b e = e
second_true false b e = absurd (true≢false (sym e))

-- ---- exact orders

both_equal : (a b : Ordering) → is_eq (ordering_then a b) ≡ true → (a ≡ Equal) × (b ≡ Equal)
both_equal Less b e = absurd (true≢false (sym e))
both_equal Equal b e = (refl, (Equal-is b).0 e)
both_equal Greater b e = absurd (true≢false (sym e))

pub owner_exact : (o p : Owner) → is_eq (owner_cmp o p) ≡ true → o ≡ p
owner_exact o p e =
    let both = both_equal (nat_cmp o.connection p.connection) (nat_cmp o.tag p.tag) e in
    let first : o.connection ≡ p.connection = nat_cmp-IsAntisymmetric o.connection p.connection both.0 in
    let second : o.tag ≡ p.tag = nat_cmp-IsAntisymmetric o.tag p.tag both.1 in
    λ i. record { connection = first i; tag = second i }

pub spot_exact : (s t : ListenKey) → is_eq (spot_cmp s t) ≡ true → s ≡ t
spot_exact s t e =
    let both = both_equal (path_cmp s.path t.path) (owner_cmp s.owner t.owner) e in
    let first : s.path ≡ t.path = exact_paths s.path t.path both.0 in
    let second : s.owner ≡ t.owner = owner_exact s.owner t.owner (ap is_eq both.1) in
    λ i. record { path = first i; owner = second i }

-- ---- one more owner

abbrev pub IsAdded : Owner → List Owner → List Owner → Type 0
IsAdded k old new = (q : Owner) → has_owner new q ≡ cond (is_eq (owner_cmp k q)) true (has_owner old q)

pub added_kept : (k : Owner) (old new : List Owner) → IsAdded k old new → AreKept old new
added_kept k old new e o h =
    e o ∙ elim (is_eq (owner_cmp k o)) as (λ b. cond b true (has_owner old o) ≡ true) [
      | true ↦ refl
      | false ↦ h
    ]

pub added_itself : (k : Owner) (old new : List Owner) → IsAdded k old new → has_owner new k ≡ true
added_itself k old new e =
    e k ∙ ap (λ o. cond (is_eq o) true (has_owner old k)) (tied_itself owners_total k)

pub kept_through : (a b c : List Owner) → AreKept a b → AreKept b c → AreKept a c
kept_through a b c h k o e = k o (h o e)

pub kept_itself : (a : List Owner) → AreKept a a
kept_itself a o e = e

pub found_kept : (test : ListenKey → Bool) (spots : List ListenKey) (old new : List Owner) → AreKept old new
    → AreFound test spots old → AreFound test spots new
found_kept test spots old new kept h k d lt e = kept (get_or spots k d).owner (h k d lt e)

-- ---- the run of a path

-- the first spot that there can be at a path
abbrev pub first_spot : Path → ListenKey
first_spot p = record { path = p; owner = record { connection = 0; tag = 0 } }

-- what is not before a path
abbrev pub NotBefore : Path → ListenKey → Type 0
NotBefore p s = is_lt (path_cmp s.path p) ≡ false

zero_only : (n : ℕ) → nat_lt 0 n ≡ false → (0 == n) ≡ true
zero_only n e = grind (arith, nat_tests)

pub zero_first : (n : ℕ) → is_le (nat_cmp 0 n) ≡ true
zero_first n =
    elim (nat_lt 0 n) as (λ b. nat_lt 0 n ≡ b → is_le (cond b Less (cond (0 == n) Equal Greater)) ≡ true) [
      | true ↦ λ e. refl
      | false ↦ λ e. ap (λ d. is_le (cond d Equal Greater)) (zero_only n e)
    ] refl

pub le_then : (a b : Ordering) → is_le a ≡ true → is_le b ≡ true → is_le (ordering_then a b) ≡ true
le_then Less b e f = refl
le_then Equal b e f = f
le_then Greater b e f = e

least_owner : (o : Owner) → is_le (owner_cmp (record { connection = 0; tag = 0 }) o) ≡ true
least_owner o = le_then (nat_cmp 0 o.connection) (nat_cmp 0 o.tag) (zero_first o.connection) (zero_first o.tag)

not_greater : (a b : Ordering) → is_le b ≡ true → is_le (ordering_then a b) ≡ false → a ≡ Greater
not_greater Less b e f = absurd (true≢false f)
not_greater Equal b e f = absurd (true≢false (sym e ∙ f))
not_greater Greater b e f = refl

-- what stands before the first there can be is not in the run
pub before_run : (p : Path) (below : Bool) (s : ListenKey) → is_le (spot_cmp (first_spot p) s) ≡ false
    → is_in p below s ≡ true → ⊥
before_run p below s e f =
    let behind : path_cmp p s.path ≡ Greater = not_greater (path_cmp p s.path) (owner_cmp (record { connection = 0; tag = 0 }) s.owner) (least_owner s.owner) e in
    elim below as (λ b. is_in p b s ≡ true → ⊥) [
      | true ↦ λ g. true≢false (sym (ap is_lt (paths_total.antisymm s.path p ∙ ap ordering_reverse behind))
          ∙ above_first p s.path g)
      | false ↦ λ g. true≢false (sym g ∙ ap is_eq behind)
    ] f

le_not_before : (a b : Ordering) → is_le (ordering_then a b) ≡ true → is_lt (ordering_reverse a) ≡ false
le_not_before Less b e = refl
le_not_before Equal b e = refl
le_not_before Greater b e = absurd (true≢false (sym e))

pub not_before : (p : Path) (s : ListenKey) → is_le (spot_cmp (first_spot p) s) ≡ true → NotBefore p s
not_before p s e =
    ap is_lt (paths_total.antisymm s.path p)
    ∙ le_not_before (path_cmp p s.path) (owner_cmp (record { connection = 0; tag = 0 }) s.owner) e

-- one in front of one in the run is in it
pub run_through : (p : Path) (below : Bool) (s t : ListenKey) → NotBefore p s → spot_cmp s t ≡ Less
    → is_in p below t ≡ true → is_in p below s ≡ true
run_through p below s t from less e =
    let behind : is_lt (path_cmp t.path s.path) ≡ false = ap is_lt (paths_total.antisymm t.path s.path)
    ∙ le_not_before (path_cmp s.path t.path) (owner_cmp s.owner t.owner) (ap is_le less) in
    elim below as (λ b. is_in p b t ≡ true → is_in p b s ≡ true) [
      | true ↦ λ f. under_from p s.path t.path f from behind
      | false ↦ λ f. same_from p s.path t.path f from behind
    ] e

-- so where one is not in it, none behind it is
pub run_over : (p : Path) (below : Bool) (s : ListenKey) (rest : List ListenKey) → NotBefore p s
    → IsStrictlySortedBy spot_cmp (s ∷ rest) → is_in p below s ≡ false
    → (found : List Owner) → AreFound (is_in p below) (s ∷ rest) found
run_over p below s rest from rise out found =
    All-cons (λ t. is_in p below t ≡ true → has_owner found t.owner ≡ true) s rest
    (λ e. absurd (true≢false (sym e ∙ out)))
    (λ k d lt e. absurd (true≢false (sym (run_through p below s (get_or rest k d) from (All-after_first spot_cmp s rest rise k d lt) e) ∙ out)))

-- ---- what a search begins with

and_true : (b : Bool) → b && not false ≡ b
and_true true = refl
and_true false = refl

-- a test of all that a filter lets through, and of what it doesn't
from_filter : (keep : ListenKey → Bool) (P : ListenKey → Type 0) (ks : List ListenKey) → ((s : ListenKey) → keep s ≡ false → P s)
    → All P (filter keep ks) → All P ks
from_filter keep P [] f h = h
from_filter keep P (s ∷ ks) f h =
    elim (keep s) as (λ b. keep s ≡ b → All P (cond b (s ∷ filter keep ks) (filter keep ks)) → All P (s ∷ ks)) [
      | true ↦ λ e g. All-cons P s ks (All-head P s (filter keep ks) g)
          (from_filter keep P ks f (All-tail P s (filter keep ks) g))
      | false ↦ λ e g. All-cons P s ks (f s e) (from_filter keep P ks f g)
    ] refl h

abbrev pub from : Path → ListenKey → Bool
from p s = is_le (spot_cmp (first_spot p) s) && not false

pub begun : (p : Path) (below : Bool) (ks left : List ListenKey) → left ≡ filter (from p) ks → (found : List Owner)
    → AreFound (is_in p below) left found → AreFound (is_in p below) ks found
begun p below ks left is found h =
    from_filter (from p) (λ s. is_in p below s ≡ true → has_owner found s.owner ≡ true) ks
    (λ s e f. absurd (before_run p below s (sym (and_true (is_le (spot_cmp (first_spot p) s))) ∙ e) f))
    (subst (λ z. AreFound (is_in p below) z found) is h)

pub begun_behind : (p : Path) (ks left : List ListenKey) → left ≡ filter (from p) ks → All (NotBefore p) left
begun_behind p ks left is =
    subst (All (NotBefore p)) (sym is)
    (λ k d lt.
    let s : ListenKey = get_or (filter (from p) ks) k d in
    not_before p s (sym (and_true (is_le (spot_cmp (first_spot p) s))) ∙ filter_passes (from p) ks k d lt))

pub begun_rising : (p : Path) (ks left : List ListenKey) → left ≡ filter (from p) ks → IsStrictlySortedBy spot_cmp ks
    → IsStrictlySortedBy spot_cmp left
begun_rising p ks left is rise =
    subst (IsStrictlySortedBy spot_cmp) (sym is) (IsStrictlySortedBy-filter spot_cmp (from p) ks rise)

-- ---- one turn of the search of a run

-- who is found with all that is left is found in all
abbrev pub FindsAll : Path → Bool → List ListenKey → List ListenKey → List Owner → Type 0
FindsAll p below ks left found = (all : List Owner) → AreKept found all → AreFound (is_in p below) left all
    → AreFound (is_in p below) ks all

pub finds_more : (p : Path) (below : Bool) (ks left rest : List ListenKey) (s : ListenKey) (old new : List Owner)
    → left ≡ s ∷ rest → IsAdded s.owner old new → FindsAll p below ks left old → FindsAll p below ks rest new
finds_more p below ks left rest s old new is added h all kept found =
    h all (kept_through old new all (added_kept s.owner old new added) kept)
    (subst (λ z. AreFound (is_in p below) z all) (sym is)
    (All-cons (λ t. is_in p below t ≡ true → has_owner all t.owner ≡ true) s rest
    (λ e. kept s.owner (added_itself s.owner old new added)) found))

pub finds_no_more : (p : Path) (below : Bool) (ks left rest : List ListenKey) (s : ListenKey) (found : List Owner)
    → left ≡ s ∷ rest → FindsAll p below ks left found → All (NotBefore p) left → IsStrictlySortedBy spot_cmp left
    → is_in p below s ≡ false → AreFound (is_in p below) ks found
finds_no_more p below ks left rest s found is h behind rise out =
    h found (kept_itself found)
    (subst (λ z. AreFound (is_in p below) z found) (sym is)
    (run_over p below s rest (All-head (NotBefore p) s rest (subst (All (NotBefore p)) is behind))
    (subst (IsStrictlySortedBy spot_cmp) is rise) out found))

pub finds_all : (p : Path) (below : Bool) (ks left : List ListenKey) (found : List Owner) → left ≡ []
    → FindsAll p below ks left found → AreFound (is_in p below) ks found
finds_all p below ks left found none h =
    h found (kept_itself found) (subst (λ z. AreFound (is_in p below) z found) (sym none)
    (λ k d lt. absurd (omega (arith, lt))))

-- ---- what is above a path

pub prefix_length : (q p : Path) → is_at_or_above q p ≡ true → length q ≤ length p
prefix_length [] p e = omega arith
prefix_length (k ∷ q) [] e = absurd (true≢false (sym e))
prefix_length (k ∷ q) (j ∷ p) e =
    elim (key_eq k j) as (λ b. is_some (cond b (strip q p) None) ≡ true → suc (length q) ≤ suc (length p)) [
      | true ↦ λ f. let rest = prefix_length q p f in omega (arith, rest)
      | false ↦ λ f. absurd (true≢false (sym f))
    ] e

pub prefix_take : (q p : Path) → is_at_or_above q p ≡ true → take (length q) p ≡ q
prefix_take [] p e = refl
prefix_take (k ∷ q) [] e = absurd (true≢false (sym e))
prefix_take (k ∷ q) (j ∷ p) e =
    elim (key_eq k j) as (λ b. key_eq k j ≡ b → is_some (cond b (strip q p) None) ≡ true → take (length (k ∷ q)) (j ∷ p) ≡ k ∷ q) [
      | true ↦ λ t f. (λ i. sym (key_eq-is k j t) i ∷ prefix_take q p f i)
      | false ↦ λ t f. absurd (true≢false (sym f))
    ] refl e

-- one that is no shorter is the path itself
pub same_length : (q p : Path) → is_at_or_above q p ≡ true → nat_lt (length q) (length p) ≡ false → q ≡ p
same_length [] [] e long = refl
same_length [] (j ∷ p) e long = absurd (omega (arith, not_less 0 (length (j ∷ p)) long))
same_length (k ∷ q) [] e long = absurd (true≢false (sym e))
same_length (k ∷ q) (j ∷ p) e long =
    elim (key_eq k j) as (λ b. key_eq k j ≡ b → is_some (cond b (strip q p) None) ≡ true → k ∷ q ≡ j ∷ p) [
      | true ↦ λ t f. (λ i. key_eq-is k j t i ∷ same_length q p f (shorter (not_less (length (k ∷ q)) (length (j ∷ p)) long)) i)
      | false ↦ λ t f. absurd (true≢false (sym f))
    ] refl e
  where
    shorter : length (j ∷ p) ≤ length (k ∷ q) → nat_lt (length q) (length p) ≡ false
    shorter le = no_less (length q) (length p) (omega (arith, le))

-- above a path, and with fewer keys than so many
abbrev pub is_shorter : Path → ℕ → ListenKey → Bool
is_shorter p n s = is_at_or_above s.path p && nat_lt (length s.path) n

pub none_shorter : (p : Path) (ks : List ListenKey) (found : List Owner) → AreFound (is_shorter p 0) ks found
none_shorter p ks found k d lt e =
    absurd (omega (arith, less_of (length (get_or ks k d).path) 0 (second_true (is_at_or_above (get_or ks k d).path p) (nat_lt (length (get_or ks k d).path) 0) e)))

pub one_longer : (p : Path) (n : ℕ) (ks : List ListenKey) (old new : List Owner) → AreFound (is_shorter p n) ks old
    → AreKept old new → AreFound (is_in (take n p) false) ks new → AreFound (is_shorter p (n + 1)) ks new
one_longer p n ks old new short kept here k d lt e =
    let s : ListenKey = get_or ks k d in
    let up = first_true (is_at_or_above s.path p) (nat_lt (length s.path) (n + 1)) e in
    let most = less_of (length s.path) (n + 1) (second_true (is_at_or_above s.path p) (nat_lt (length s.path) (n + 1)) e) in
    elim (nat_lt (length s.path) n) as (λ b. nat_lt (length s.path) n ≡ b → has_owner new s.owner ≡ true) [
      | true ↦ λ f. kept s.owner (short k d lt ((λ i. up i && f i)))
      | false ↦ λ f.
          let same : length s.path ≡ n = omega (arith, most, not_less (length s.path) n f) in
          let is : take n p ≡ s.path = ap (λ m. take m p) (sym same) ∙ prefix_take s.path p up in
          here k d lt (ap (λ q. path_eq q s.path) is ∙ path_eq-same s.path)
    ] refl

pub all_shorter : (p : Path) (n : ℕ) (ks : List ListenKey) (found : List Owner) → length p ≤ n
    → AreFound (is_shorter p n) ks found → AreFound (is_above p) ks found
all_shorter p n ks found le short k d lt e =
    let s : ListenKey = get_or ks k d in
    let up = first_true (is_at_or_above s.path p) (nat_lt (length s.path) (length p)) e in
    let less = less_of (length s.path) (length p) (second_true (is_at_or_above s.path p) (nat_lt (length s.path) (length p)) e) in
    short k d lt (λ i. up i && is_less (length s.path) n (omega (arith, less, le)) i)

-- what is above a path, at it and below it, is all that it overlaps
pub overlaps_found : (p : Path) (ks : List ListenKey) (old new : List Owner) → AreFound (is_above p) ks old
    → AreKept old new → AreFound (is_in p true) ks new → AreFound (overlaps p) ks new
overlaps_found p ks old new up kept under k d lt e =
    let s : ListenKey = get_or ks k d in
    elim (is_at_or_above p s.path) as (λ b. is_at_or_above p s.path ≡ b
    → (b || is_at_or_above s.path p) ≡ true → has_owner new s.owner ≡ true) [
      | true ↦ λ f g. under k d lt f
      | false ↦ λ f g. elim (nat_lt (length s.path) (length p)) as (λ b. nat_lt (length s.path) (length p) ≡ b
          → has_owner new s.owner ≡ true) [
            | true ↦ λ h. kept s.owner (up k d lt (λ i. g i && h i))
            | false ↦ λ h. under k d lt
                (ap (is_at_or_above p) (same_length s.path p g h) ∙ above_itself p)
          ] refl
    ] refl e
