-- Actions that lose what they have at and below a path.
use Rattle.std.proofs.Common.{◌≡◌, ℕ, ◌==◌, Bool, true, false, cond, not, ◌||◌, ◌&&◌, List, [], ◌∷◌, map, Option, Some, None, is_some, refl, sym, ap, subst, ◌∙◌, arith, if◌then◌else◌}
use mathlib.Core.Bool.{true≢false}
use Rattle.std.specs.List.{All, filter, list_any}
use Rattle.std.specs.Map.{keys_of, lookup, remove_entry}
use Rattle.std.specs.BTreeMap.{insert_entry, is_at as key_is}
use Rattle.std.specs.Ordering.{is_eq, match_ordering}
use Rattle.std.specs.declared.cmp.Ordering.TheVariants.{Less, Equal, Greater}
use Rattle.std.proofs.lemmas.Bool.Decides.{nat_tests}
use Rattle.std.proofs.lemmas.List.Elements.{All-cons, All-head, All-tail}
use Rattle.std.proofs.lemmas.Map.Keys.{sorted_tail}
use Rattle.rt_tree.specs.PathTree.{Path}
use Rattle.rt_tree.specs.Assignments.{Assignment, is_at_or_above}
use Rattle.rt_peer.specs.Peers.{Deferred}
use Rattle.rt_peer.specs.Calls.{has_entries, is_empty, without_below}
use Rattle.rt_peer.specs.declared.actions.ActionKey.{ActionKey}
use Rattle.rt_peer.specs.inside.Placed.{apart, cut_at, deferred_of, deferreds_of, has_place, is_bare, is_dirty, is_of, place_cmp}
use Rattle.rt_peer.specs.inside.Placed.{AreByPlace, AreListed, PlacedActions}
use Rattle.rt_peer.proofs.PlacedLaws.{after_equal, less_all, list_is, none_at, or_rest, other_way, place_exact}

abbrev Entry : Type 0
Entry = ActionKey × List Assignment

abbrev at : ActionKey → PlacedActions → Option (List Assignment)
at p es = lookup (key_is (place_cmp p)) es

-- ---- what a cut is to the map

pub cut_gone : (p : ActionKey) (q : Path) (v : List Assignment) (es : PlacedActions) → Some v ≡ at p es → is_empty (apart q v) ≡ true
    → remove_entry (key_is (place_cmp p)) es ≡ cut_at p q es
cut_gone p q v [] h bare = refl
cut_gone p q v (e ∷ es) h bare =
    elim (is_eq (place_cmp p e.0)) as (λ b. Some v ≡ cond b (Some e.1) (at p es)
    → cond b es (e ∷ remove_entry (key_is (place_cmp p)) es)
    ≡ (if b then (if is_empty (apart q e.1) then es else (e.0, apart q e.1) ∷ es) else e ∷ cut_at p q es)) [
      | true ↦ λ g.
          let none : is_empty (apart q e.1) ≡ true = ap (λ x. is_empty (apart q x)) (sym (list_is v e.1 g)) ∙ bare in
          sym (ap (λ b. if b then es else (e.0, apart q e.1) ∷ es) none)
      | false ↦ λ g. ap (λ xs. e ∷ xs) (cut_gone p q v es g bare)
    ] h

pub cut_left : (p : ActionKey) (q : Path) (v : List Assignment) (es : PlacedActions) → AreByPlace es → Some v ≡ at p es
    → is_empty (apart q v) ≡ false → insert_entry place_cmp es p (apart q v) ≡ cut_at p q es
cut_left p q v [] s h bare = absurd (true≢false (ap is_some h))
cut_left p q v (e ∷ es) s h bare =
    elim (place_cmp p e.0) as (λ r. place_cmp p e.0 ≡ r → Some v ≡ cond (is_eq r) (Some e.1) (at p es)
    → match_ordering r ((p, apart q v) ∷ e ∷ es) ((e.0, apart q v) ∷ es) (e ∷ insert_entry place_cmp es p (apart q v))
    ≡ (if is_eq r then (if is_empty (apart q e.1) then es else (e.0, apart q e.1) ∷ es) else e ∷ cut_at p q es)) [
      | Less ↦ λ f g. absurd (true≢false (ap is_some (g ∙ none_at p es (All-tail (λ k. place_cmp p k ≡ Less) e.0 (keys_of es) (less_all p e.0 (keys_of es) f s)))))
      | Equal ↦ λ f g.
          let same : v ≡ e.1 = list_is v e.1 g in
          ap (λ x. (e.0, apart q x) ∷ es) same
          ∙ sym (ap (λ b. if b then es else (e.0, apart q e.1) ∷ es) (ap (λ x. is_empty (apart q x)) (sym same) ∙ bare))
      | Greater ↦ λ f g. ap (λ xs. e ∷ xs) (cut_left p q v es (sorted_tail place_cmp e.0 (keys_of es) s) g bare)
    ] refl h

pub cut_none : (p : ActionKey) (q : Path) (es : PlacedActions) → None ≡ at p es → es ≡ cut_at p q es
cut_none p q [] h = refl
cut_none p q (e ∷ es) h =
    elim (is_eq (place_cmp p e.0)) as (λ b. None ≡ cond b (Some e.1) (at p es)
    → e ∷ es ≡ (if b then (if is_empty (apart q e.1) then es else (e.0, apart q e.1) ∷ es) else e ∷ cut_at p q es)) [
      | true ↦ λ g. absurd (true≢false (sym (ap is_some g)))
      | false ↦ λ g. ap (λ xs. e ∷ xs) (cut_none p q es g)
    ] h

-- ---- what a cut leaves of what is to be left

abbrev pub to_leave : ℕ → Path → PlacedActions → List Deferred
to_leave n q es = filter has_entries (map (without_below n q) (deferreds_of es))

apart_twice : (q : Path) (v : List Assignment) → apart q (apart q v) ≡ apart q v
apart_twice q [] = refl
apart_twice q (a ∷ v) =
    elim (is_at_or_above q a.0) as (λ b. is_at_or_above q a.0 ≡ b
    → apart q (cond (not b) (a ∷ apart q v) (apart q v)) ≡ cond (not b) (a ∷ apart q v) (apart q v)) [
      | true ↦ λ e. apart_twice q v
      | false ↦ λ e. ap (λ b. cond (not b) (a ∷ apart q (apart q v)) (apart q (apart q v))) e ∙ ap (λ x. a ∷ x) (apart_twice q v)
    ] refl

-- one of the connection's, as it is to be left
abbrev as_left : Path → Entry → List Deferred → List Deferred
as_left q e rest = cond (not (is_empty (apart q e.1))) (deferred_of (e.0, apart q e.1) ∷ rest) rest

left_own : (n : ℕ) (q : Path) (e : Entry) (es : PlacedActions) → is_of n e ≡ true
    → to_leave n q (e ∷ es) ≡ as_left q e (to_leave n q es)
left_own n q e es own =
    ap (λ b. cond (has_entries (if b then deferred_of (e.0, apart q e.1) else deferred_of e))
    ((if b then deferred_of (e.0, apart q e.1) else deferred_of e) ∷ to_leave n q es) (to_leave n q es)) own

cut_one : (n : ℕ) (q : Path) (e : Entry) (es : PlacedActions) → is_of n e ≡ true
    → to_leave n q (if is_empty (apart q e.1) then es else (e.0, apart q e.1) ∷ es) ≡ to_leave n q (e ∷ es)
cut_one n q e es own =
    elim (is_empty (apart q e.1)) as (λ b. is_empty (apart q e.1) ≡ b → to_leave n q (if b then es else (e.0, apart q e.1) ∷ es) ≡ to_leave n q (e ∷ es)) [
      | true ↦ λ f.
          sym (left_own n q e es own
          ∙ ap (λ b. cond (not b) (deferred_of (e.0, apart q e.1) ∷ to_leave n q es) (to_leave n q es)) f)
      | false ↦ λ f.
          left_own n q (e.0, apart q e.1) es own
          ∙ ap (λ x. cond (not (is_empty x)) (deferred_of (e.0, x) ∷ to_leave n q es) (to_leave n q es)) (apart_twice q e.1)
          ∙ sym (left_own n q e es own)
    ] refl

pub cut_same : (n : ℕ) (p : ActionKey) (q : Path) (es : PlacedActions) → p.connection ≡ n → to_leave n q (cut_at p q es) ≡ to_leave n q es
cut_same n p q [] own = refl
cut_same n p q (e ∷ es) own =
    elim (is_eq (place_cmp p e.0)) as (λ b. is_eq (place_cmp p e.0) ≡ b
    → to_leave n q (if b then (if is_empty (apart q e.1) then es else (e.0, apart q e.1) ∷ es) else e ∷ cut_at p q es) ≡ to_leave n q (e ∷ es)) [
      | true ↦ λ f.
          let mine : is_of n e ≡ true = ap (λ (k : ActionKey). k.connection == n) (sym (place_exact p e.0 f)) ∙ ap (λ m. m == n) own ∙ itself n in
          cut_one n q e es mine
      | false ↦ λ f. ap (λ ds. cond (has_entries (without_below n q (deferred_of e))) (without_below n q (deferred_of e) ∷ ds) ds) (cut_same n p q es own)
    ] refl
  where
    itself : (m : ℕ) → (m == m) ≡ true
    itself m = grind (arith, nat_tests)

-- ---- which are still to be cut

clean_apart : (q : Path) (v : List Assignment) → list_any (λ a. is_at_or_above q a.0) (apart q v) ≡ false
clean_apart q [] = refl
clean_apart q (a ∷ v) =
    elim (is_at_or_above q a.0) as (λ b. is_at_or_above q a.0 ≡ b → list_any (λ x. is_at_or_above q x.0) (cond (not b) (a ∷ apart q v) (apart q v)) ≡ false) [
      | true ↦ λ e. clean_apart q v
      | false ↦ λ e. ap (λ b. b || list_any (λ x. is_at_or_above q x.0) (apart q v)) e ∙ clean_apart q v
    ] refl

and_second : (a b : Bool) → (a && b) ≡ true → b ≡ true
and_second true b e = e
and_second false b e = absurd (true≢false (sym e))

abbrev Listed : ℕ → Path → List ActionKey → Entry → Type 0
Listed n q ps e = is_dirty n q e ≡ true → has_place ps e.0 ≡ true

pub listed_cut : (n : ℕ) (p : ActionKey) (q : Path) (ps : List ActionKey) (es : PlacedActions) → AreByPlace es → AreListed n q (p ∷ ps) es
    → AreListed n q ps (cut_at p q es)
listed_cut n p q ps [] s h = λ k d lt. absurd (omega (arith, lt))
listed_cut n p q ps (e ∷ es) s h =
    elim (is_eq (place_cmp p e.0)) as (λ b. is_eq (place_cmp p e.0) ≡ b
    → AreListed n q ps (if b then (if is_empty (apart q e.1) then es else (e.0, apart q e.1) ∷ es) else e ∷ cut_at p q es)) [
      | true ↦ λ f.
          let later : AreListed n q ps es = behind es (after_of f) (All-tail (Listed n q (p ∷ ps)) e es h) in
          elim (is_empty (apart q e.1)) as (λ b. AreListed n q ps (if b then es else (e.0, apart q e.1) ∷ es)) [
            | true ↦ later
            | false ↦ All-cons (Listed n q ps) (e.0, apart q e.1) es
                (λ i. absurd (true≢false (sym (and_second (is_of n e) (list_any (λ a. is_at_or_above q a.0) (apart q e.1)) i) ∙ clean_apart q e.1)))
                later
          ]
      | false ↦ λ f.
          All-cons (Listed n q ps) e (cut_at p q es)
          (λ i. or_rest (is_eq (place_cmp e.0 p)) (has_place ps e.0) (other_way p e.0 f) (All-head (Listed n q (p ∷ ps)) e es h i))
          (listed_cut n p q ps es (sorted_tail place_cmp e.0 (keys_of es) s) (All-tail (Listed n q (p ∷ ps)) e es h))
    ] refl
  where
    after_of : is_eq (place_cmp p e.0) ≡ true → All (λ r. place_cmp p r ≡ Less) (keys_of es)
    after_of f = after_equal p e.0 (keys_of es) f s

    behind : (xs : PlacedActions) → All (λ r. place_cmp p r ≡ Less) (keys_of xs) → AreListed n q (p ∷ ps) xs → AreListed n q ps xs
    behind [] less k = λ j d lt. absurd (omega (arith, lt))
    behind (x ∷ xs) less k =
        All-cons (Listed n q ps) x xs
        (λ i. or_rest (is_eq (place_cmp x.0 p)) (has_place ps x.0)
        (other_way p x.0 (ap is_eq (All-head (λ r. place_cmp p r ≡ Less) x.0 (keys_of xs) less)))
        (All-head (Listed n q (p ∷ ps)) x xs k i))
        (behind xs (All-tail (λ r. place_cmp p r ≡ Less) x.0 (keys_of xs) less) (All-tail (Listed n q (p ∷ ps)) x xs k))

-- ---- where none is left to be cut

clean_all : (q : Path) (v : List Assignment) → list_any (λ a. is_at_or_above q a.0) v ≡ false → apart q v ≡ v
clean_all q [] e = refl
clean_all q (a ∷ v) e =
    elim (is_at_or_above q a.0) as (λ b. (b || list_any (λ x. is_at_or_above q x.0) v) ≡ false
    → cond (not b) (a ∷ apart q v) (apart q v) ≡ a ∷ v) [
      | true ↦ λ f. absurd (true≢false f)
      | false ↦ λ f. ap (λ x. a ∷ x) (clean_all q v f)
    ] e

clean_same : (n : ℕ) (q : Path) (e : Entry) → is_dirty n q e ≡ false → without_below n q (deferred_of e) ≡ deferred_of e
clean_same n q e clean =
    elim (is_of n e) as (λ b. (b && list_any (λ a. is_at_or_above q a.0) e.1) ≡ false
    → (if b then deferred_of (e.0, apart q e.1) else deferred_of e) ≡ deferred_of e) [
      | true ↦ λ f. ap (λ x. deferred_of (e.0, x)) (clean_all q e.1 f)
      | false ↦ λ f. refl
    ] clean

pub all_clean : (n : ℕ) (q : Path) (es : PlacedActions) → AreListed n q [] es
    → deferreds_of (filter (λ e. not (is_bare e)) es) ≡ to_leave n q es
all_clean n q [] h = refl
all_clean n q (e ∷ es) h =
    elim (is_dirty n q e) as (λ b. is_dirty n q e ≡ b → deferreds_of (filter (λ x. not (is_bare x)) (e ∷ es)) ≡ to_leave n q (e ∷ es)) [
      | true ↦ λ f. absurd (true≢false (sym (All-head (Listed n q []) e es h f)))
      | false ↦ λ f.
          mapped (is_bare e) (filter (λ x. not (is_bare x)) es)
          ∙ ap (λ ds. cond (not (is_bare e)) (deferred_of e ∷ ds) ds) (all_clean n q es (All-tail (Listed n q []) e es h))
          ∙ ap (λ d. cond (has_entries d) (d ∷ to_leave n q es) (to_leave n q es)) (sym (clean_same n q e f))
    ] refl
  where
    mapped : (b : Bool) (xs : PlacedActions) → deferreds_of (cond (not b) (e ∷ xs) xs) ≡ cond (not b) (deferred_of e ∷ deferreds_of xs) (deferreds_of xs)
    mapped true xs = refl
    mapped false xs = refl

-- ---- place by place

pub listed_next : (n : ℕ) (q : Path) (p : ActionKey) (rest places : List ActionKey) (es left : PlacedActions) → places ≡ p ∷ rest
    → left ≡ cut_at p q es → AreByPlace es → AreListed n q places es → AreListed n q rest left
listed_next n q p rest places es left steps is s listed =
    subst (AreListed n q rest) (sym is) (listed_cut n p q rest es s (subst (λ ps. AreListed n q ps es) steps listed))

pub leaves_next : (n : ℕ) (q : Path) (p : ActionKey) (es left first : PlacedActions) → left ≡ cut_at p q es → p.connection ≡ n
    → to_leave n q es ≡ to_leave n q first → to_leave n q left ≡ to_leave n q first
leaves_next n q p es left first is own h = ap (to_leave n q) is ∙ cut_same n p q es own ∙ h

pub all_left : (n : ℕ) (q : Path) (places : List ActionKey) (es left first : PlacedActions) (now : List Deferred) → places ≡ []
    → left ≡ filter (λ e. not (is_bare e)) es → AreListed n q places es → to_leave n q es ≡ to_leave n q first
    → deferreds_of first ≡ now → deferreds_of left ≡ filter has_entries (map (without_below n q) now)
all_left n q places es left first now none is listed h view =
    ap deferreds_of is
    ∙ all_clean n q es (subst (λ ps. AreListed n q ps es) none listed)
    ∙ h ∙ ap (λ ds. filter has_entries (map (without_below n q) ds)) view
