-- The spots below one, laid one after another.
use Rattle.std.proofs.Common.{◌≡◌, ℕ, Bool, true, false, cond, not, ◌&&◌, ◌||◌, List, [], ◌∷◌, ◌++◌, length, length-append, append-nil, Option, Some, None, is_some, refl, sym, ap, subst, ◌∙◌, arith}
use Rattle.std.specs.List.{All, AllByRecursion, fold, list_any}
use Rattle.std.specs.Ordering.{is_eq}
use Rattle.std.specs.declared.cmp.Ordering.TheVariants.{Less}
use Rattle.std.specs.BTreeMap.{get, is_at}
use Rattle.std.specs.Map.{lookup, keys_of}
use Rattle.std.specs.List.Sorted.{IsStrictlySortedBy}
use Rattle.std.proofs.lemmas.Map.Keys.{sorted_head, sorted_tail}
use Rattle.std.proofs.lemmas.List.Folds.{list_any-append}
use Rattle.std.proofs.lemmas.List.Sums.{fold-append}
use Rattle.std.proofs.lemmas.List.Elements.{All-head, All-tail}
use Rattle.rt_tree.specs.PathTree.{Key, Path, PathTree, child, key_cmp, key_eq, key_eq-is, key_eq-same, key_eq-symm, leaf_of, path_eq, strip, strip-some, strip-append}
use Rattle.rt_tree.specs.Assignments.{Assignment, is_at_or_above, do_overlap}
use Rattle.rt_writes.specs.Writes.{Write, assignments, overlaid, overlay, sets_whole}
use Rattle.rt_writes.specs.laws.OverlayLaws.{fold-overlaid_part}
use Rattle.rt_writes.specs.laws.TouchLaws.{fold-untouched}
use Rattle.rt_writes.specs.declared.spots.Spot.{Spot}
use Rattle.rt_writes.specs.inside.Spots.{below_of, has_here, is_full, some_entry, IsMergedAt, AreApart, IsLast, after, fills, later_of, LaysAt, SetsAt, Laid}
use Rattle.rt_writes.proofs.SpotLaws.{here_in, under_in, full_in}
use Rattle.rt_writes.proofs.NumberLaws.{not_so, any_of, any_either, or_left, or_right, at_child}
use Rattle.rt_writes.proofs.LeafLaws.{same_by_children, leaf-fold, or_false}
use Rattle.rt_writes.proofs.LayLaws.{none_after, nothing_after, none_above, merged_child, lays_both}

-- ---- paths
reach : (p a : Path) → is_at_or_above p a ≡ true → (q : Path) × (a ≡ p ++ q)
reach p a e =
    elim (strip p a) as (λ o. strip p a ≡ o → is_some o ≡ true → (q : Path) × (a ≡ p ++ q)) [
      | None ↦ λ f g. cc
      | Some q ↦ λ f g. (q, strip-some p a q f)
    ] refl e

joined : (x : Path) (k : Key) (q : Path) → (x ++ k ∷ []) ++ q ≡ x ++ (k ∷ q)
joined [] k q = refl
joined (i ∷ x) k q = ap (λ z. i ∷ z) (joined x k q)

-- what is at or below the child is at or below the path
below_path : (x : Path) (k : Key) (a : Path) → is_at_or_above (x ++ k ∷ []) a ≡ true → is_at_or_above x a ≡ true
below_path x k a e =
    let at = reach (x ++ k ∷ []) a e in
    ap (is_at_or_above x) (at.1 ∙ joined x k at.0) ∙ ap is_some (strip-append x (k ∷ at.0))

-- and not at or above it
pub not_above : (x : Path) (k : Key) (a : Path) → is_at_or_above (x ++ k ∷ []) a ≡ true → is_at_or_above a x ≡ true → ⊥
not_above x k a e f =
    let at = reach (x ++ k ∷ []) a e in
    let on = reach a x f in
    omega (arith, ap length at.1, ap length on.1, length-append (x ++ k ∷ []) at.0, length-append x (k ∷ []), length-append a on.0)

others : (x : Path) (k j : Key) (q : Path) → key_eq k j ≡ false → do_overlap ((x ++ k ∷ []) ++ q) (x ++ j ∷ []) ≡ false
others [] k j q e =
    (λ i. is_some (cond (e i) (strip q []) None) || is_some (cond (key_eq-symm j k i) (strip [] q) None))
    ∙ ap (λ b. false || is_some (cond b (strip [] q) None)) e
others (i ∷ x) k j q e =
    (λ z. is_some (cond (key_eq-same i z) (strip ((x ++ k ∷ []) ++ q) (x ++ j ∷ [])) None) || is_some (cond (key_eq-same i z) (strip (x ++ j ∷ []) ((x ++ k ∷ []) ++ q)) None))
    ∙ others x k j q e

-- another child is met by nothing there
other_child : (x : Path) (k j : Key) (a : Path) → key_eq k j ≡ false → is_at_or_above (x ++ k ∷ []) a ≡ true → do_overlap a (x ++ j ∷ []) ≡ false
other_child x k j a e f =
    let at = reach (x ++ k ∷ []) a f in
    ap (λ z. do_overlap z (x ++ j ∷ [])) at.1 ∙ others x k j at.0 e

-- ---- entries
none_where : (f g : Assignment → Bool) → ((a : Assignment) → f a ≡ true → g a ≡ true) → (es : List Assignment) → list_any g es ≡ false → list_any f es ≡ false
none_where f g h es e = not_so (list_any f es) (λ t. cc (sym (any_of f g h es t) ∙ e))

inside : (x : Path) (k : Key) (es : List Assignment) → list_any (λ a. not (is_at_or_above (x ++ k ∷ []) a.0)) es ≡ false
    → (f : Assignment → Bool) → ((a : Assignment) → is_at_or_above (x ++ k ∷ []) a.0 ≡ true → f a ≡ false) → list_any f es ≡ false
inside x k es e f h =
    none_where f (λ a. not (is_at_or_above (x ++ k ∷ []) a.0)) (λ a t.
    elim (is_at_or_above (x ++ k ∷ []) a.0) as (λ b. is_at_or_above (x ++ k ∷ []) a.0 ≡ b → not b ≡ true) [
      | true ↦ λ g. cc (sym t ∙ h a g)
      | false ↦ λ g. refl
    ] refl) es e

not_of : (b : Bool) → (b ≡ true → ⊥) → not b ≡ true
not_of true h = absurd (h refl)
not_of false h = refl

filled : (x : Path) (es : List Assignment) → list_any (λ a. not (is_at_or_above x a.0)) es ≡ false → fills es x ≡ list_any is_full es
filled x [] e = refl
filled x (a ∷ es) e =
    let parts = or_false (not (is_at_or_above x a.0)) (list_any (λ a. not (is_at_or_above x a.0)) es) e in
    elim (is_at_or_above x a.0) as (λ b. not b ≡ false → ((b && is_full a) || fills es x) ≡ (is_full a || list_any is_full es)) [
      | true ↦ λ f. ap (λ c. is_full a || c) (filled x es parts.1)
      | false ↦ λ f. cc
    ] parts.0

-- what is set below a path is set at or below a child of it
child_filled : (x : Path) (es : List Assignment) → list_any (λ a. is_at_or_above a.0 x) es ≡ false → fills es x ≡ true → (k : Key) × (fills es (x ++ k ∷ []) ≡ true)
child_filled x [] none e = cc
child_filled x (a ∷ es) none e =
    let parts = or_false (is_at_or_above a.0 x) (list_any (λ a. is_at_or_above a.0 x) es) none in
    elim (is_at_or_above x a.0 && is_full a) as (λ b. (is_at_or_above x a.0 && is_full a) ≡ b → (b || fills es x) ≡ true → (k : Key) × (fills (a ∷ es) (x ++ k ∷ []) ≡ true)) [
      | true ↦ λ f g. own parts.0 f
      | false ↦ λ f g.
          let it = child_filled x es parts.1 g in
          (it.0, or_right (is_at_or_above (x ++ it.0 ∷ []) a.0 && is_full a) (fills es (x ++ it.0 ∷ [])) it.1)
    ] refl e
  where
    first : (b c : Bool) → (b && c) ≡ true → (b ≡ true) × (c ≡ true)
    first true c f = (refl, f)
    first false c f = cc

    own : is_at_or_above a.0 x ≡ false → (is_at_or_above x a.0 && is_full a) ≡ true → (k : Key) × (fills (a ∷ es) (x ++ k ∷ []) ≡ true)
    own out f = let both = first (is_at_or_above x a.0) (is_full a) f in let at = reach x a.0 both.0 in by at.0 at.1 both.1
      where
        by : (q : Path) → a.0 ≡ x ++ q → is_full a ≡ true → (k : Key) × (fills (a ∷ es) (x ++ k ∷ []) ≡ true)
        by [] is full = cc (sym (ap (λ z. is_at_or_above z x) (is ∙ append-nil x) ∙ ap is_some (ap (strip x) (sym (append-nil x)) ∙ strip-append x [])) ∙ out)
        by (k ∷ q) is full =
            let passes : (is_at_or_above (x ++ k ∷ []) a.0 && is_full a) ≡ true =
            ap (λ z. is_at_or_above (x ++ k ∷ []) z && is_full a) (is ∙ sym (joined x k q))
            ∙ ap (λ o. is_some o && is_full a) (strip-append (x ++ k ∷ []) q) ∙ full in
            (k, or_left (is_at_or_above (x ++ k ∷ []) a.0 && is_full a) (fills es (x ++ k ∷ [])) passes)

-- ---- the spots so far; the rest of them is left
abbrev pub left : List (Key × Spot) → Key → Option Spot
left rest k = lookup (is_at (key_cmp k)) rest

pub record Part (ws : List Write) (s : Spot) (x : Path) (last : Option ℕ) (rest : List (Key × Spot)) (es : List Assignment) : Type 0 where
  pub above : list_any (λ a. is_at_or_above a.0 x) es ≡ false
  pub within : list_any (λ a. not (is_at_or_above x a.0)) es ≡ false
  pub up : list_any is_full es ≡ true → fills (assignments (after last ws)) x ≡ true
  pub down : (k : Key) → is_some (get key_cmp (below_of s) k) ≡ true → left rest k ≡ None
      → fills (assignments (after last ws)) (x ++ k ∷ []) ≡ true → list_any is_full es ≡ true
  pub kids : (k : Key) (t : PathTree) → is_some (get key_cmp (below_of s) k) ≡ true → left rest k ≡ None
      → fold (overlaid (x ++ k ∷ [])) t es ≡ overlay (x ++ k ∷ []) t (after last ws)
  pub still : (k : Key) (t : PathTree) → (is_some (get key_cmp (below_of s) k) ≡ true → is_some (left rest k) ≡ true)
      → fold (overlaid (x ++ k ∷ [])) t es ≡ t

pub part_none : (ws : List Write) (s : Spot) (x : Path) (last : Option ℕ) → Part ws s x last (below_of s).entries []
part_none ws s x last = record {
  above = refl;
  within = refl;
  up = λ e. cc;
  down = λ k some none e. cc (sym (ap is_some none) ∙ some);
  kids = λ k t some none. cc (sym (ap is_some none) ∙ some);
  still = λ k t h. refl;
}

none_left : (k : Key) (rest : List (Key × Spot)) → AllByRecursion (λ j. key_cmp k j ≡ Less) (keys_of rest) → left rest k ≡ None
none_left k [] h = refl
none_left k (e ∷ rest) h = ap (λ o. cond (is_eq o) (Some e.1) (left rest k)) h.0 ∙ none_left k rest h.1

pub part_more : (ws : List Write) (s c : Spot) (x : Path) (last : Option ℕ) (j : Key) (rest : List (Key × Spot)) (es fs : List Assignment)
    → IsStrictlySortedBy key_cmp (keys_of ((j, c) ∷ rest)) → get key_cmp (below_of s) j ≡ Some c → LaysAt ws (x ++ j ∷ []) last fs
    → Part ws s x last ((j, c) ∷ rest) es → Part ws s x last rest (es ++ fs)
part_more ws s c x last j rest es fs sorted got lays before = record {
  above =
      list_any-append (λ a. is_at_or_above a.0 x) es fs ∙ (λ i. before.above i
      || inside x j fs lays.within (λ a. is_at_or_above a.0 x) (λ a t. not_so (is_at_or_above a.0 x) (not_above x j a.0 t)) i);
  within =
      list_any-append (λ a. not (is_at_or_above x a.0)) es fs ∙ (λ i. before.within i
      || inside x j fs lays.within (λ a. not (is_at_or_above x a.0)) (λ a t. ap not (below_path x j a.0 t)) i);
  up = λ e.
      either (list_any is_full es) (list_any is_full fs) (sym (list_any-append is_full es fs) ∙ e) (fills (assignments (after last ws)) x ≡ true) before.up
      (λ f. any_of (λ a. is_at_or_above (x ++ j ∷ []) a.0 && is_full a) (λ a. is_at_or_above x a.0 && is_full a)
      (λ a t. let both = pair (is_at_or_above (x ++ j ∷ []) a.0) (is_full a) t in (λ i. below_path x j a.0 both.0 i && both.1 i))
      (assignments (after last ws)) (sym lays.full ∙ f));
  down = λ k some none e.
      list_any-append is_full es fs
      ∙ by_key k ((list_any is_full es || list_any is_full fs) ≡ true)
      (λ same other. or_right (list_any is_full es) (list_any is_full fs) (lays.full ∙ ap (λ z. fills (assignments (after last ws)) (x ++ z ∷ [])) same ∙ e))
      (λ other. or_left (list_any is_full es) (list_any is_full fs) (before.down k some (there k other ∙ none) e));
  kids = λ k t some none.
      fold-append (overlaid (x ++ k ∷ [])) t es fs
      ∙ by_key k (fold (overlaid (x ++ k ∷ [])) (fold (overlaid (x ++ k ∷ [])) t es) fs ≡ overlay (x ++ k ∷ []) t (after last ws))
      (λ same at. ap (λ u. fold (overlaid (x ++ k ∷ [])) u fs) (before.still k t (λ f. ap is_some at))
      ∙ ap (λ z. fold (overlaid (x ++ z ∷ [])) t fs) (sym same) ∙ lays.same t ∙ ap (λ z. overlay (x ++ z ∷ []) t (after last ws)) same)
      (λ other. untouched k other (fold (overlaid (x ++ k ∷ [])) t es) ∙ before.kids k t some (there k other ∙ none));
  still = λ k t h.
      fold-append (overlaid (x ++ k ∷ [])) t es fs
      ∙ by_key k (fold (overlaid (x ++ k ∷ [])) (fold (overlaid (x ++ k ∷ [])) t es) fs ≡ t)
      (λ same at. absurd (passed k same h))
      (λ other. untouched k other (fold (overlaid (x ++ k ∷ [])) t es) ∙ before.still k t (λ some. ap is_some (there k other) ∙ h some));
}
  where
    either : (a b : Bool) → (a || b) ≡ true → (X : Type 0) → (a ≡ true → X) → (b ≡ true → X) → X
    either true b e X f g = f refl
    either false b e X f g = g e

    pair : (a b : Bool) → (a && b) ≡ true → (a ≡ true) × (b ≡ true)
    pair true b e = (refl, e)
    pair false b e = cc

    by_key : (k : Key) (X : Type 0) → (j ≡ k → left ((j, c) ∷ rest) k ≡ Some c → X) → (key_eq k j ≡ false → X) → X
    by_key k X same other = elim (key_eq k j) as (λ b. key_eq k j ≡ b → X) [
      | true ↦ λ e. same (sym (key_eq-is k j e)) (ap (λ b. cond b (Some c) (left rest k)) e)
      | false ↦ other
    ] refl

    there : (k : Key) → key_eq k j ≡ false → left ((j, c) ∷ rest) k ≡ left rest k
    there k other = ap (λ b. cond b (Some c) (left rest k)) other

    untouched : (k : Key) → key_eq k j ≡ false → (u : PathTree) → fold (overlaid (x ++ k ∷ [])) u fs ≡ u
    untouched k other u =
        fold-untouched (x ++ k ∷ []) u fs
        (inside x j fs lays.within (λ a. do_overlap a.0 (x ++ k ∷ [])) (λ a t. other_child x j k a.0 (key_eq-symm j k ∙ other) t))

    passed : (k : Key) → j ≡ k → (is_some (get key_cmp (below_of s) k) ≡ true → is_some (left rest k) ≡ true) → ⊥
    passed k same h =
        let none : left rest k ≡ None = ap (left rest) (sym same) ∙ none_left j rest (sorted_head key_cmp j (keys_of rest) sorted) in
        let some : is_some (get key_cmp (below_of s) k) ≡ true = ap (λ z. is_some (get key_cmp (below_of s) z)) (sym same) ∙ ap is_some got in
        cc (sym (ap is_some none) ∙ h some)

-- once none is left, all below the path is laid
pub part_all : (ws : List Write) (s : Spot) (x : Path) (last : Option ℕ) (es : List Assignment) → IsMergedAt ws x s → sets_whole (after last ws) x ≡ false
    → Part ws s x last [] es → LaysAt ws x last es
part_all ws s x last es m none h = record { within = h.within; full = full; same = same }
  where
    -- a child without a spot
    absent_above : (k : Key) → get key_cmp (below_of s) k ≡ None → sets_whole (after last ws) (x ++ k ∷ []) ≡ false
    absent_above k is =
        ap (λ f. list_any f (assignments (after last ws))) (λ i a. at_child a.0 x k i)
        ∙ any_either (λ a. is_at_or_above a.0 x) (λ a. path_eq a.0 (x ++ k ∷ [])) (assignments (after last ws)) none
        (none_after (λ a. path_eq a.0 (x ++ k ∷ [])) ws last (λ j l. sym (m.here (k ∷ []) j) ∙ ap (λ o. here_in o [] j) is))

    absent_under : (k : Key) → get key_cmp (below_of s) k ≡ None → (j : ℕ) → some_entry (λ a. is_at_or_above (x ++ k ∷ []) a.0) ws j ≡ false
    absent_under k is j = sym (m.under (k ∷ []) j) ∙ ap (λ o. under_in o [] j) is

    absent_full : (k : Key) → get key_cmp (below_of s) k ≡ None → fills (assignments (after last ws)) (x ++ k ∷ []) ≡ false
    absent_full k is = none_after (λ a. is_at_or_above (x ++ k ∷ []) a.0 && is_full a) ws last (λ j l. sym (m.full (k ∷ []) j) ∙ ap (λ o. full_in o [] j) is)

    by_spot : (k : Key) (X : Type 0) → (get key_cmp (below_of s) k ≡ None → X) → (is_some (get key_cmp (below_of s) k) ≡ true → X) → X
    by_spot k X absent there = elim (get key_cmp (below_of s) k) as (λ o. get key_cmp (below_of s) k ≡ o → X) [
      | None ↦ absent
      | Some c ↦ λ e. there (ap is_some e)
    ] refl

    full : list_any is_full es ≡ fills (assignments (after last ws)) x
    full = elim (fills (assignments (after last ws)) x) as (λ b. fills (assignments (after last ws)) x ≡ b → list_any is_full es ≡ b) [
      | true ↦ λ e.
          let it = child_filled x (assignments (after last ws)) none e in
          by_spot it.0 (list_any is_full es ≡ true) (λ absent. cc (sym (absent_full it.0 absent) ∙ it.1)) (λ some. h.down it.0 some refl it.1)
      | false ↦ λ e. not_so (list_any is_full es) (λ t. cc (sym (h.up t) ∙ e))
    ] refl

    same : (t : PathTree) → fold (overlaid x) t es ≡ overlay x t (after last ws)
    same t =
        same_by_children (fold (overlaid x) t es) (overlay x t (after last ws))
        (leaf-fold x t es h.above
        ∙ ap (λ b. cond b None (leaf_of t)) (filled x es h.within ∙ full)
        ∙ sym (leaf-fold x t (assignments (after last ws)) none))
        (λ k.
        fold-overlaid_part x (k ∷ []) es t
        ∙ by_spot k (fold (overlaid (x ++ k ∷ [])) (child t k) es ≡ overlay (x ++ k ∷ []) (child t k) (after last ws))
        (λ absent. h.still k (child t k) (λ some. cc (sym (ap is_some absent) ∙ some))
        ∙ sym (nothing_after ws (x ++ k ∷ []) last (child t k) (absent_above k absent) (λ j l. absent_under k absent j)))
        (λ some. h.kids k (child t k) some refl)
        ∙ sym (fold-overlaid_part x (k ∷ []) (assignments (after last ws)) t))

-- ---- the map of the spots below, gone through in order
pub record Row (s : Spot) (rest : List (Key × Spot)) : Type 0 where
  pub sorted : IsStrictlySortedBy key_cmp (keys_of rest)
  pub found : All (λ e. get key_cmp (below_of s) e.0 ≡ Some e.1) rest

pub row_next : (s c : Spot) (j : Key) (all rest : List (Key × Spot)) → all ≡ (j, c) ∷ rest → Row s all
    → Row s rest × (get key_cmp (below_of s) j ≡ Some c) × IsStrictlySortedBy key_cmp (keys_of ((j, c) ∷ rest))
row_next s c j all rest is h =
    let sorted = subst (λ r. IsStrictlySortedBy key_cmp (keys_of r)) is h.sorted in
    let found = subst (All (λ e. get key_cmp (below_of s) e.0 ≡ Some e.1)) is h.found in (
      record {
        sorted = sorted_tail key_cmp j (keys_of rest) sorted;
        found = All-tail (λ e. get key_cmp (below_of s) e.0 ≡ Some e.1) (j, c) rest found;
      },
      All-head (λ e. get key_cmp (below_of s) e.0 ≡ Some e.1) (j, c) rest found,
      sorted,
    )

-- what is laid at x once each spot of the row but these has been
abbrev pub IsLaidAt : Path → List Write → Spot → Option ℕ → Path → PathTree → List (Key × Spot) → PathTree → Type 0
IsLaidAt x ws s last p t rest done =
    AreApart ws → IsMergedAt ws x s → sets_whole (after last ws) x ≡ false → Laid (Part ws s x last rest) p t done

-- wherever the spot is
abbrev pub IsLaid : List Write → Spot → Option ℕ → Path → PathTree → List (Key × Spot) → PathTree → Type 0
IsLaid ws s last p t rest done = (x : Path) → IsLaidAt x ws s last p t rest done

pub laid_first : (ws : List Write) (s : Spot) (last : Option ℕ) (p : Path) (t : PathTree) (all : List (Key × Spot)) → all ≡ (below_of s).entries → IsLaid ws s last p t all t
laid_first ws s last p t all is = λ x apart m none. ([], refl, subst (λ r. Part ws s x last r []) (sym is) (part_none ws s x last))

-- one spot more
pub laid_more : (x : Path) (ws : List Write) (s c : Spot) (last : Option ℕ) (p : Path) (t one two : PathTree) (j : Key) (all rest : List (Key × Spot))
    → all ≡ (j, c) ∷ rest → Row s all → IsLaidAt x ws s last p t all one
    → (AreApart ws → IsMergedAt ws (x ++ j ∷ []) c → sets_whole (after last ws) x ≡ false → Laid (LaysAt ws (x ++ j ∷ []) last) p one two)
    → IsLaidAt x ws s last p t rest two
laid_more x ws s c last p t one two j all rest is row before lays = λ apart m none.
    let it = row_next s c j all rest is row in
    let so_far = before apart m none in
    let more = lays apart (merged_child ws x s c j m it.1) none in (
      so_far.0 ++ more.0,
      more.1 ∙ ap (λ u. fold (overlaid p) u more.0) so_far.1 ∙ sym (fold-append (overlaid p) t so_far.0 more.0),
      part_more ws s c x last j rest so_far.0 more.0 it.2 it.1 more.2 (subst (λ r. Part ws s x last r so_far.0) is so_far.2),
    )

-- first what is set at a spot, and then what lies below
pub laid_both : (ws : List Write) (x : Path) (j : Key) (c : Spot) (last here : Option ℕ) (p : Path) (one two three : PathTree) → IsLast (λ n. has_here c [] n ≡ true) here
    → ((x : Path) → AreApart ws → IsMergedAt ws x c → Laid (SetsAt ws x last here) p one two)
    → ((x : Path) → AreApart ws → IsMergedAt ws x c → sets_whole (after (later_of last here) ws) x ≡ false → Laid (LaysAt ws x (later_of last here)) p two three)
    → AreApart ws → IsMergedAt ws (x ++ j ∷ []) c → sets_whole (after last ws) x ≡ false → Laid (LaysAt ws (x ++ j ∷ []) last) p one three
laid_both ws x j c last here p one two three h sets below apart m none =
    let own = sets (x ++ j ∷ []) apart m in
    let under = below (x ++ j ∷ []) apart m (none_above ws x j c last here m h none) in (
      own.0 ++ under.0,
      under.1 ∙ ap (λ u. fold (overlaid p) u under.0) own.1 ∙ sym (fold-append (overlaid p) one own.0 under.0),
      lays_both ws (x ++ j ∷ []) last here own.0 under.0 own.2 under.2,
    )

pub laid_next : (ws : List Write) (s c : Spot) (last here : Option ℕ) (p : Path) (t one two three : PathTree) (j : Key) (all rest : List (Key × Spot))
    → all ≡ (j, c) ∷ rest → Row s all → IsLast (λ n. has_here c [] n ≡ true) here → IsLaid ws s last p t all one
    → ((x : Path) → AreApart ws → IsMergedAt ws x c → Laid (SetsAt ws x last here) p one two)
    → ((x : Path) → AreApart ws → IsMergedAt ws x c → sets_whole (after (later_of last here) ws) x ≡ false → Laid (LaysAt ws x (later_of last here)) p two three)
    → IsLaid ws s last p t rest three
laid_next ws s c last here p t one two three j all rest is row h before sets below =
    λ x. laid_more x ws s c last p t one three j all rest is row (before x) (laid_both ws x j c last here p one two three h sets below)

-- once none is left, all is laid
pub laid_all : (x : Path) (ws : List Write) (s : Spot) (last : Option ℕ) (p : Path) (t done : PathTree) (rest : List (Key × Spot)) → rest ≡ [] → IsLaidAt x ws s last p t rest done
    → AreApart ws → IsMergedAt ws x s → sets_whole (after last ws) x ≡ false → Laid (LaysAt ws x last) p t done
laid_all x ws s last p t done rest is h apart m none =
    let it = h apart m none in
    (it.0, it.1, part_all ws s x last it.0 m none (subst (λ r. Part ws s x last r it.0) is it.2))
