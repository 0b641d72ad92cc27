-- What is laid spot by spot is what the writes overlay.
use Rattle.std.proofs.Common.{◌≡◌, ◌==◌, ◌≤◌, ◌<◌, ℕ, zero, suc, max, length, Result, Bool, true, false, cond, not, ◌&&◌, ◌||◌, List, [], ◌∷◌, ◌++◌, append-nil, nat_lt, get_or, Option, Some, None, is_some, refl, sym, ap, subst, ◌∙◌, arith, eqb-true}
use Rattle.std.specs.Prelude.{IsTrue, IfSome, OnErr}
use Rattle.std.specs.List.{All, fold, filter, find, list_any, slice_get}
use Rattle.std.specs.Option.{option_map_or, option_and_then}
use Rattle.std.specs.Ordering.{nat_cmp}
use Rattle.std.specs.BTreeMap.{get}
use Rattle.std.specs.BTreeSet.{contains}
use Rattle.std.proofs.lemmas.Bool.{ltb-true, ltb-false, lt-ltb}
use Rattle.std.proofs.lemmas.List.Folds.{list_any-append}
use Rattle.std.proofs.lemmas.List.Sums.{fold-append}
use Rattle.std.proofs.lemmas.List.Elements.{All-head, All-tail}
use Rattle.std.proofs.lemmas.Option.{slice_get_past, slice_get_read}
use Rattle.std.proofs.lemmas.Result.{on_err_weaker}
use Rattle.rt_tree.specs.PathTree.{Key, Path, PathTree, key_cmp, path_eq, path_eq-is, null, is_null, of_leaf, not_null_of_leaf, leaf_at, leaf_at-of_leaf, leaf_alone, levels, levels_le}
use Rattle.rt_tree.specs.Leaf.{LeafValue, truth}
use Rattle.rt_tree.specs.Assignments.{Assignment, is_at_or_above, do_overlap, have_overlap}
use Rattle.rt_writes.specs.Writes.{Write, IsShallow, assignments, overlaid, overlay, sets_whole, touches}
use Rattle.rt_writes.specs.laws.TouchLaws.{fold-untouched}
use Rattle.rt_writes.specs.declared.spots.Spot.{Spot}
use Rattle.rt_writes.specs.inside.Spots.{under_of, below_of, spot_at, has_here, place_at, tree_at, within, is_entry, is_full, IsLast, later_of, some_write, some_entry, IsMergedAt, AreApart, is_later, HasLater, after, entry_at, fills, LaysAt, SetsAt, Laid, marked}
use Rattle.rt_writes.proofs.SpotLaws.{here_in, under_in, full_in, place_in, both_true}
use Rattle.rt_writes.proofs.NumberLaws.{Rising, sets, equal_itself, not_so, any_of, any_either, or_left, or_right, own, none_pass, whole_after, at_child}
use Rattle.rt_writes.proofs.LeafLaws.{overlaid-own, only_entry}
use Rattle.rt_writes.proofs.AtChild.{at_itself}

-- ---- the later writes
pub some_after : (test : Assignment → Bool) (ws : List Write) (last : Option ℕ) → list_any test (assignments (after last ws)) ≡ true
    → (j : ℕ) × (is_later last j ≡ true) × (some_entry test ws j ≡ true)
some_after test [] last e = cc
some_after test (w ∷ ws) last e =
    elim (is_later last w.id) as (λ b. is_later last w.id ≡ b → list_any test (assignments (cond b (w ∷ after last ws) (after last ws))) ≡ true
    → (j : ℕ) × (is_later last j ≡ true) × (some_entry test (w ∷ ws) j ≡ true)) [
      | true ↦ λ l f.
          elim (sets test w) as (λ b. sets test w ≡ b → (b || list_any test (assignments (after last ws))) ≡ true
          → (j : ℕ) × (is_later last j ≡ true) × (some_entry test (w ∷ ws) j ≡ true)) [
            | true ↦ λ g h. (w.id, l, or_left ((w.id == w.id) && sets test w) (some_entry test ws w.id) (ap (λ b. b && sets test w) (equal_itself w.id) ∙ g))
            | false ↦ λ g h.
                let it = some_after test ws last h in
                (it.0, it.1, or_right ((w.id == it.0) && sets test w) (some_entry test ws it.0) it.2)
          ] refl (sym (list_any-append test w.entries (assignments (after last ws))) ∙ f)
      | false ↦ λ l f.
          let it = some_after test ws last f in
          (it.0, it.1, or_right ((w.id == it.0) && sets test w) (some_entry test ws it.0) it.2)
    ] refl e

pub after_some : (test : Assignment → Bool) (ws : List Write) (last : Option ℕ) (j : ℕ) → is_later last j ≡ true → some_entry test ws j ≡ true
    → list_any test (assignments (after last ws)) ≡ true
after_some test [] last j l e = cc
after_some test (w ∷ ws) last j l e =
    elim ((w.id == j) && sets test w) as (λ b. ((w.id == j) && sets test w) ≡ b → (b || some_entry test ws j) ≡ true
    → list_any test (assignments (cond (is_later last w.id) (w ∷ after last ws) (after last ws))) ≡ true) [
      | true ↦ λ f g.
          let both = both_true (w.id == j) (sets test w) f in
          ap (λ b. list_any test (assignments (cond b (w ∷ after last ws) (after last ws)))) (ap (is_later last) (eqb-true w.id j both.0) ∙ l)
          ∙ list_any-append test w.entries (assignments (after last ws))
          ∙ or_left (sets test w) (list_any test (assignments (after last ws))) both.1
      | false ↦ λ f g.
          elim (is_later last w.id) as (λ b. list_any test (assignments (cond b (w ∷ after last ws) (after last ws))) ≡ true) [
            | true ↦
                list_any-append test w.entries (assignments (after last ws))
                ∙ or_right (sets test w) (list_any test (assignments (after last ws))) (after_some test ws last j l g)
            | false ↦ after_some test ws last j l g
          ]
    ] refl e

pub none_after : (test : Assignment → Bool) (ws : List Write) (last : Option ℕ) → ((j : ℕ) → is_later last j ≡ true → some_entry test ws j ≡ false)
    → list_any test (assignments (after last ws)) ≡ false
none_after test ws last h = not_so (list_any test (assignments (after last ws))) (λ e. let it = some_after test ws last e in cc (sym (h it.0 it.1) ∙ it.2))

-- ---- the last one
later_first : (last here : Option ℕ) (j : ℕ) → is_later (later_of last here) j ≡ true → is_later last j ≡ true
later_first None here j e = refl
later_first (Some m) None j e = e
later_first (Some m) (Some n) j e = let less : max m n < j = ltb-true (max m n) j e in lt-ltb m j (omega arith)

later_last : (P : ℕ → Type 0) (last here : Option ℕ) → IsLast P here → (j : ℕ) → is_later (later_of last here) j ≡ true → P j → ⊥
later_last P None None h j e p = h j p
later_last P (Some m) None h j e p = h j p
later_last P None (Some n) h j e p = let less : n < j = ltb-true n j e in let most : j ≤ n = h.1 j p in omega arith
later_last P (Some m) (Some n) h j e p = let less : max m n < j = ltb-true (max m n) j e in let most : j ≤ n = h.1 j p in omega arith

later_none : (last : Option ℕ) → later_of last None ≡ last
later_none None = refl
later_none (Some m) = refl

later_passed : (last : Option ℕ) (n : ℕ) → is_later last n ≡ false → later_of last (Some n) ≡ last
later_passed None n e = cc
later_passed (Some m) n e = let most : n ≤ m = ltb-false m n e in let is : max m n ≡ m = omega arith in ap Some is

pub later_new : (last : Option ℕ) (n : ℕ) → is_later last n ≡ true → later_of last (Some n) ≡ Some n
later_new None n e = refl
later_new (Some m) n e = let less : m < n = ltb-true m n e in let is : max m n ≡ n = omega arith in ap Some is

-- ---- the spots below
joined : (x : Path) (k : Key) (q : Path) → x ++ (k ∷ q) ≡ (x ++ k ∷ []) ++ q
joined [] k q = refl
joined (i ∷ x) k q = ap (λ z. i ∷ z) (joined x k q)

pub merged_child : (ws : List Write) (x : Path) (s c : Spot) (k : Key) → IsMergedAt ws x s → get key_cmp (below_of s) k ≡ Some c → IsMergedAt ws (x ++ k ∷ []) c
merged_child ws x s c k h is = record {
  here = λ q j. sym (ap (λ o. here_in o q j) is) ∙ h.here (k ∷ q) j ∙ ap (λ z. some_entry (λ a. path_eq a.0 z) ws j) (joined x k q);
  under = λ q j. sym (ap (λ o. under_in o q j) is) ∙ h.under (k ∷ q) j ∙ ap (λ z. some_entry (λ a. is_at_or_above z a.0) ws j) (joined x k q);
  full = λ q j. sym (ap (λ o. full_in o q j) is) ∙ h.full (k ∷ q) j ∙ ap (λ z. some_entry (λ a. is_at_or_above z a.0 && is_full a) ws j) (joined x k q);
  places = λ q j i e.
      ap (λ z. some_write (λ w. is_entry w.entries i z) ws j) (sym (joined x k q))
      ∙ h.places (k ∷ q) j i (ap (λ o. place_in o q j) is ∙ e);
  trees = λ q u e.
      h.trees (k ∷ q) u (ap (λ o. option_map_or (λ c. tree_at c q) o None) is ∙ e)
      ∙ ap (λ z. fold (overlaid z) null (within (assignments ws) z)) (joined x k q);
}

pub merged_at : (ws : List Write) (q x : Path) (r s : Spot) → IsMergedAt ws x r → spot_at r q ≡ Some s → IsMergedAt ws (x ++ q) s
merged_at ws [] x r s h e = let is : r ≡ s = cc in subst (λ z. IsMergedAt ws z s) (sym (append-nil x)) (subst (IsMergedAt ws x) is h)
merged_at ws (k ∷ q) x r s h e =
    elim (get key_cmp (below_of r) k) as (λ o. get key_cmp (below_of r) k ≡ o → option_and_then (λ c. spot_at c q) o ≡ Some s → IsMergedAt ws (x ++ (k ∷ q)) s) [
      | None ↦ λ is f. cc
      | Some c ↦ λ is f. subst (λ z. IsMergedAt ws z s) (sym (joined x k q)) (merged_at ws q (x ++ k ∷ []) c s (merged_child ws x r c k h is) f)
    ] refl e

-- none of the later writes is at or above a spot, once the last one there has been laid
pub none_above : (ws : List Write) (x : Path) (k : Key) (c : Spot) (last here : Option ℕ) → IsMergedAt ws (x ++ k ∷ []) c → IsLast (λ j. has_here c [] j ≡ true) here
    → sets_whole (after last ws) x ≡ false → sets_whole (after (later_of last here) ws) (x ++ k ∷ []) ≡ false
none_above ws x k c last here m h none =
    ap (λ f. list_any f (assignments (after (later_of last here) ws))) (λ i a. at_child a.0 x k i)
    ∙ any_either (λ a. is_at_or_above a.0 x) (λ a. path_eq a.0 (x ++ k ∷ [])) (assignments (after (later_of last here) ws))
    (none_after (λ a. is_at_or_above a.0 x) ws (later_of last here) (λ j l.
    not_so (some_entry (λ a. is_at_or_above a.0 x) ws j) (λ e. cc (sym (after_some (λ a. is_at_or_above a.0 x) ws last j (later_first last here j l) e) ∙ none))))
    (none_after (λ a. path_eq a.0 (x ++ k ∷ [])) ws (later_of last here) (λ j l.
    not_so (some_entry (λ a. path_eq a.0 (x ++ k ∷ [])) ws j) (λ e.
    later_last (λ j. has_here c [] j ≡ true) last here h j l
    (m.here [] j ∙ ap (λ z. some_entry (λ a. path_eq a.0 z) ws j) (append-nil (x ++ k ∷ [])) ∙ e))))

-- where no later write has an entry below the path it is as it was
pub nothing_after : (ws : List Write) (x : Path) (last : Option ℕ) (t : PathTree) → sets_whole (after last ws) x ≡ false
    → ((j : ℕ) → is_later last j ≡ true → some_entry (λ a. is_at_or_above x a.0) ws j ≡ false) → overlay x t (after last ws) ≡ t
nothing_after ws x last t none under =
    fold-untouched x t (assignments (after last ws))
    (any_either (λ a. is_at_or_above a.0 x) (λ a. is_at_or_above x a.0) (assignments (after last ws)) none (none_after (λ a. is_at_or_above x a.0) ws last under))

-- ---- the last write at a spot
found_entry : (ws : List Write) (id i : ℕ) (a : Assignment) → entry_at ws id i ≡ Some a
    → (w : Write) × (find (λ w. w.id == id) ws ≡ Some w) × (slice_get w.entries i ≡ Some a)
found_entry ws id i a e =
    elim (find (λ w. w.id == id) ws) as (λ o. find (λ w. w.id == id) ws ≡ o → option_and_then (λ w. slice_get w.entries i) o ≡ Some a
    → (w : Write) × (find (λ w. w.id == id) ws ≡ Some w) × (slice_get w.entries i ≡ Some a)) [
      | None ↦ λ f g. cc
      | Some w ↦ λ f g. (w, f, g)
    ] refl e

one_found : (ws : List Write) (id : ℕ) (w : Write) → Rising ws → find (λ w. w.id == id) ws ≡ Some w → filter (λ w. w.id == id) ws ≡ w ∷ []
one_found [] id w r e = cc
one_found (v ∷ ws) id w r e =
    elim (v.id == id) as (λ b. (v.id == id) ≡ b → cond b (Some v) (find (λ w. w.id == id) ws) ≡ Some w → cond b (v ∷ filter (λ w. w.id == id) ws) (filter (λ w. w.id == id) ws) ≡ w ∷ []) [
      | true ↦ λ s f.
          let is : v ≡ w = cc in
          (λ z. is z ∷ none_pass (λ w. w.id == id) v.id ws (λ u q. let eq : u.id ≡ id = eqb-true u.id id q in let at : v.id ≡ id = eqb-true v.id id s in omega arith) r.0 z)
      | false ↦ λ s f. one_found ws id w r.1 f
    ] refl e

apart_found : (ws : List Write) (id : ℕ) (w : Write) → AreApart ws → find (λ w. w.id == id) ws ≡ Some w → have_overlap w.entries ≡ false
apart_found [] id w h e = cc
apart_found (v ∷ ws) id w h e =
    elim (v.id == id) as (λ b. cond b (Some v) (find (λ w. w.id == id) ws) ≡ Some w → have_overlap w.entries ≡ false) [
      | true ↦ λ f. let is : v ≡ w = cc in ap (λ u. have_overlap u.entries) (sym is) ∙ All-head (λ w. have_overlap w.entries ≡ false) v ws h
      | false ↦ λ f. apart_found ws id w (All-tail (λ w. have_overlap w.entries ≡ false) v ws h) f
    ] e

any_slice : (test : Assignment → Bool) (es : List Assignment) (i : ℕ) (a : Assignment) → slice_get es i ≡ Some a → test a ≡ true → list_any test es ≡ true
any_slice test [] i a e h = cc
any_slice test (b ∷ es) zero a e h = let is : b ≡ a = cc in or_left (test b) (list_any test es) (ap test is ∙ h)
any_slice test (b ∷ es) (suc i) a e h = or_right (test b) (list_any test es) (any_slice test es i a e h)

-- all entries at the path itself
pub at_path : (x : Path) (b : Bool) (a : Assignment) → a.0 ≡ x → list_any (λ e. not (is_at_or_above x e.0)) (marked b a) ≡ false
at_path x b a is =
    let own : is_at_or_above x a.0 ≡ true = sym (at_itself x a.0 (sym is)) in
    elim (b && is_null a.1) as (λ c. list_any (λ e. not (is_at_or_above x e.0)) (cond c ((a.0, of_leaf (truth true)) ∷ a ∷ []) (a ∷ [])) ≡ false) [
      | true ↦ (λ i. not (own i) || (not (own i) || false))
      | false ↦ (λ i. not (own i) || false)
    ]

pub last_of : (x : Path) (b : Bool) (a : Assignment) (t : PathTree) → a.0 ≡ x → fold (overlaid x) t (marked b a) ≡ a.1
last_of x b a t is =
    elim (b && is_null a.1) as (λ c. fold (overlaid x) t (cond c ((a.0, of_leaf (truth true)) ∷ a ∷ []) (a ∷ [])) ≡ a.1) [
      | true ↦ overlaid-own x (overlaid x t (a.0, of_leaf (truth true))) a is
      | false ↦ overlaid-own x t a is
    ]

pub full_of_mark : (a : Assignment) → is_null (of_leaf (truth true)) ≡ false → list_any is_full (marked true a) ≡ true
full_of_mark a leaf =
    elim (is_null a.1) as (λ c. is_null a.1 ≡ c → list_any is_full (cond c ((a.0, of_leaf (truth true)) ∷ a ∷ []) (a ∷ [])) ≡ true) [
      | true ↦ λ e. ap (λ b. not b || (is_full a || false)) leaf
      | false ↦ λ e. ap (λ b. not b || false) e
    ] refl

-- the last write at the spot is laid by its entry there, and marked where something was set since the last one
pub sets_one : (ws : List Write) (x : Path) (c : Spot) (last : Option ℕ) (n i : ℕ) (a : Assignment) (b : Bool) → is_null (of_leaf (truth true)) ≡ false
    → Rising ws → AreApart ws → IsMergedAt ws x c → is_later last n ≡ true → place_at c [] n ≡ Some i → entry_at ws n i ≡ Some a
    → (IsTrue b → HasLater last (under_of c).full) × (HasLater last (under_of c).full → IsTrue b)
    → SetsAt ws x last (Some n) (marked b a)
sets_one ws x c last n i a b leaf r apart m later place entry full =
    record {
      within = at_path x b a is;
      full = ap (λ l. list_any is_full (marked b a) || fills (assignments (after l ws)) x) new ∙ by_full;
      same = λ t.
          ap (λ l. overlay x (fold (overlaid x) t (marked b a)) (after l ws)) new
          ∙ ap (λ u. overlay x u (after (Some n) ws)) (last_of x b a t is ∙ sym (whole t))
          ∙ sym (whole_after ws x [] x t last n r (sym (append-nil x)) later here);
    }
  where
    new : later_of last (Some n) ≡ Some n
    new = later_new last n later

    at : (w : Write) × (find (λ w. w.id == n) ws ≡ Some w) × (slice_get w.entries i ≡ Some a)
    at = found_entry ws n i a entry

    is : a.0 ≡ x
    is =
        let has : is_entry at.0.entries i (x ++ []) ≡ true = sym (own (λ w. is_entry w.entries i (x ++ [])) ws at.0 n r at.1) ∙ m.places [] n i place in
        path_eq-is a.0 (x ++ []) (sym (ap (λ o. option_map_or (λ e. path_eq e.0 (x ++ [])) o false) at.2) ∙ has) ∙ append-nil x

    here : some_entry (λ e. path_eq e.0 x) ws n ≡ true
    here = sym (m.here [] n ∙ ap (λ z. some_entry (λ e. path_eq e.0 z) ws n) (append-nil x)) ∙ ap is_some place

    whole : (t : PathTree) → overlay x t (filter (λ w. w.id == n) ws) ≡ a.1
    whole t =
        ap (overlay x t) (one_found ws n at.0 r at.1) ∙ ap (fold (overlaid x) t) (append-nil at.0.entries)
        ∙ only_entry at.0.entries i a x t (apart_found ws n at.0 apart at.1) at.2 is

    marks : (j : ℕ) → contains nat_cmp (under_of c).full j ≡ some_entry (λ e. is_at_or_above x e.0 && is_full e) ws j
    marks j = m.full [] j ∙ ap (λ z. some_entry (λ e. is_at_or_above z e.0 && is_full e) ws j) (append-nil x)

    by_full : (list_any is_full (marked b a) || fills (assignments (after (Some n) ws)) x) ≡ fills (assignments (after last ws)) x
    by_full =
        elim (fills (assignments (after last ws)) x) as (λ f. fills (assignments (after last ws)) x ≡ f → (list_any is_full (marked b a) || fills (assignments (after (Some n) ws)) x) ≡ f) [
          | true ↦ λ e.
              let it = some_after (λ e. is_at_or_above x e.0 && is_full e) ws last e in
              let noted : b ≡ true = full.1 (it.0, it.1, marks it.0 ∙ it.2) in
              or_left (list_any is_full (marked b a)) (fills (assignments (after (Some n) ws)) x)
              (ap (λ c. list_any is_full (marked c a)) noted ∙ full_of_mark a leaf)
          | false ↦ λ e.
              let unmarked : b ≡ false = not_so b (λ t. let it = full.0 t in
              cc (sym (after_some (λ e. is_at_or_above x e.0 && is_full e) ws last it.0 it.1 (sym (marks it.0) ∙ it.2)) ∙ e)) in
              let own_is : is_at_or_above x a.0 ≡ true = sym (at_itself x a.0 (sym is)) in
              let empty : is_full a ≡ false = not_so (is_full a) (λ t.
              let passes : (is_at_or_above x a.0 && is_full a) ≡ true = (λ z. own_is z && t z) in
              let has : some_entry (λ e. is_at_or_above x e.0 && is_full e) ws n ≡ true =
              own (sets (λ e. is_at_or_above x e.0 && is_full e)) ws at.0 n r at.1 ∙ any_slice (λ e. is_at_or_above x e.0 && is_full e) at.0.entries i a at.2 passes in
              cc (sym (after_some (λ e. is_at_or_above x e.0 && is_full e) ws last n later has) ∙ e)) in
              let rest : fills (assignments (after (Some n) ws)) x ≡ false = not_so (fills (assignments (after (Some n) ws)) x) (λ t.
              let it = some_after (λ e. is_at_or_above x e.0 && is_full e) ws (Some n) t in
              cc (sym (after_some (λ e. is_at_or_above x e.0 && is_full e) ws last it.0 (later_first last (Some n) it.0 (ap (λ l. is_later l it.0) new ∙ it.1)) it.2) ∙ e)) in
              (λ z. list_any is_full (marked (unmarked z) a) || rest z) ∙ ap (λ c. (c || false) || false) empty
        ] refl

-- where the last one there was laid before, there is nothing to do
pub sets_none : (ws : List Write) (x : Path) (last here : Option ℕ) → later_of last here ≡ last → SetsAt ws x last here []
sets_none ws x last here e = record {
  within = refl;
  full = ap (λ l. fills (assignments (after l ws)) x) e;
  same = λ t. ap (λ l. overlay x t (after l ws)) e;
}

pub laid_none : (ws : List Write) (x p : Path) (t : PathTree) (last here : Option ℕ) → later_of last here ≡ last → Laid (SetsAt ws x last here) p t t
laid_none ws x p t last here e = ([], refl, sets_none ws x last here e)

-- first what is set at a spot, and then what lies below
pub lays_both : (ws : List Write) (x : Path) (last here : Option ℕ) (es fs : List Assignment) → SetsAt ws x last here es → LaysAt ws x (later_of last here) fs
    → LaysAt ws x last (es ++ fs)
lays_both ws x last here es fs h g = record {
  within = list_any-append (λ a. not (is_at_or_above x a.0)) es fs ∙ (λ i. h.within i || g.within i);
  full = list_any-append is_full es fs ∙ ap (λ b. list_any is_full es || b) g.full ∙ h.full;
  same = λ t. fold-append (overlaid x) t es fs ∙ g.same (fold (overlaid x) t es) ∙ h.same t;
}

-- ---- entries by their places
pub full_leaf : is_null (of_leaf (truth true)) ≡ false
full_leaf = not_null_of_leaf (of_leaf (truth true)) [] (truth true) (leaf_at-of_leaf (truth true) [])

-- a leaf has one level
pub one_level : (t : PathTree) (l : LeafValue) → t ≡ of_leaf l → levels t ≤ 1
one_level t l is = levels_le t 1 (λ q v e. at q v (sym (ap (λ u. leaf_at u q) is) ∙ e))
  where
    at : (q : Path) (v : LeafValue) → leaf_at (of_leaf l) q ≡ Some v → length q < 1
    at [] v e = omega arith
    at (k ∷ q) v e = cc (sym (leaf_alone (of_leaf l) [] l k q (leaf_at-of_leaf l [])) ∙ e)

no_found : (test : Write → Bool) (ws : List Write) (id : ℕ) → find (λ w. w.id == id) ws ≡ None → some_write test ws id ≡ false
no_found test [] id e = refl
no_found test (w ∷ ws) id e =
    elim (w.id == id) as (λ b. cond b (Some w) (find (λ w. w.id == id) ws) ≡ None → ((b && test w) || some_write test ws id) ≡ false) [
      | true ↦ λ f. cc
      | false ↦ λ f. no_found test ws id f
    ] e

-- where the tree has a place the entry is there
pub no_entry : (ws : List Write) (x : Path) (c : Spot) (n i : ℕ) → Rising ws → IsMergedAt ws x c → place_at c [] n ≡ Some i → entry_at ws n i ≡ None → ⊥
no_entry ws x c n i r m place none =
    elim (find (λ w. w.id == n) ws) as (λ o. find (λ w. w.id == n) ws ≡ o → option_and_then (λ w. slice_get w.entries i) o ≡ None → ⊥) [
      | None ↦ λ f g. cc (sym (no_found (λ w. is_entry w.entries i (x ++ [])) ws n f) ∙ m.places [] n i place)
      | Some w ↦ λ f g.
          let has : is_entry w.entries i (x ++ []) ≡ true = sym (own (λ w. is_entry w.entries i (x ++ [])) ws w n r f) ∙ m.places [] n i place in
          cc (sym (ap (λ o. option_map_or (λ e. path_eq e.0 (x ++ [])) o false) g) ∙ has)
    ] refl none

-- what is so of each entry is so of that one
pub shallow_entry : (ws : List Write) (n i : ℕ) (a : Assignment) → All (λ w. All IsShallow w.entries) ws → entry_at ws n i ≡ Some a → IsShallow a
shallow_entry ws n i a h e =
    let at = found_entry ws n i a e in
    in_entries at.0.entries i (in_writes ws at.0 h at.1) at.2
  where
    in_entries : (es : List Assignment) (i : ℕ) → All IsShallow es → slice_get es i ≡ Some a → IsShallow a
    in_entries [] i h e = cc
    in_entries (b ∷ es) zero h e = let is : b ≡ a = cc in subst IsShallow is (All-head IsShallow b es h)
    in_entries (b ∷ es) (suc i) h e = in_entries es i (All-tail IsShallow b es h) e

    in_writes : (ws : List Write) (w : Write) → All (λ w. All IsShallow w.entries) ws → find (λ w. w.id == n) ws ≡ Some w → All IsShallow w.entries
    in_writes [] w h e = cc
    in_writes (v ∷ ws) w h e =
        elim (v.id == n) as (λ b. cond b (Some v) (find (λ w. w.id == n) ws) ≡ Some w → All IsShallow w.entries) [
          | true ↦ λ f. let is : v ≡ w = cc in subst (λ u. All IsShallow u.entries) is (All-head (λ w. All IsShallow w.entries) v ws h)
          | false ↦ λ f. in_writes ws w (All-tail (λ w. All IsShallow w.entries) v ws h) f
        ] e

among : (test : Assignment → Bool) (ws : List Write) (n i : ℕ) (a : Assignment) → entry_at ws n i ≡ Some a → test a ≡ true → list_any test (assignments ws) ≡ true
among test ws n i a e h = let at = found_entry ws n i a e in in_writes ws at.0 at.1 (any_slice test at.0.entries i a at.2 h)
  where
    in_writes : (ws : List Write) (w : Write) → find (λ w. w.id == n) ws ≡ Some w → list_any test w.entries ≡ true → list_any test (assignments ws) ≡ true
    in_writes [] w f g = cc
    in_writes (v ∷ ws) w f g =
        list_any-append test v.entries (assignments ws)
        ∙ elim (v.id == n) as (λ b. cond b (Some v) (find (λ w. w.id == n) ws) ≡ Some w → (list_any test v.entries || list_any test (assignments ws)) ≡ true) [
          | true ↦ λ s. let is : v ≡ w = cc in or_left (list_any test v.entries) (list_any test (assignments ws)) (ap (λ u. list_any test u.entries) is ∙ g)
          | false ↦ λ s. or_right (list_any test v.entries) (list_any test (assignments ws)) (in_writes ws w s g)
        ] f

pub touched_by : {T E : Type 0} (r : Result T E) (ws : List Write) (p : Path) (n i : ℕ) (a : Assignment) → entry_at ws n i ≡ Some a
    → OnErr r (do_overlap a.0 p ≡ true) → OnErr r (touches ws p ≡ true)
touched_by r ws p n i a e h = on_err_weaker r (λ t. among (λ a. do_overlap a.0 p) ws n i a e t) h

-- ---- where nothing at or below the path is later
pub lays_none : (ws : List Write) (x : Path) (s : Spot) (last : Option ℕ) (b : Bool) → IsMergedAt ws x s → (HasLater last (under_of s).all → IsTrue b) → b ≡ false
    → sets_whole (after last ws) x ≡ false → LaysAt ws x last []
lays_none ws x s last b m has passed none = record {
  within = refl;
  full = sym (none_after (λ a. is_at_or_above x a.0 && is_full a) ws last (λ j l.
      not_so (some_entry (λ a. is_at_or_above x a.0 && is_full a) ws j) (λ e. cc (sym (under j l) ∙ fewer j e))));
  same = λ t. sym (nothing_after ws x last t none under);
}
  where
    under : (j : ℕ) → is_later last j ≡ true → some_entry (λ a. is_at_or_above x a.0) ws j ≡ false
    under j l =
        not_so (some_entry (λ a. is_at_or_above x a.0) ws j)
        (λ e.
        let noted : b ≡ true = has (j, l, m.under [] j ∙ ap (λ z. some_entry (λ a. is_at_or_above z a.0) ws j) (append-nil x) ∙ e) in
        cc (sym passed ∙ noted))

    first : (b c : Bool) → (b && c) ≡ true → b ≡ true
    first true c e = refl
    first false c e = e

    both : (b c d : Bool) → (c ≡ true → d ≡ true) → (b && c) ≡ true → (b && d) ≡ true
    both true c d f e = f e
    both false c d f e = e

    fewer : (j : ℕ) → some_entry (λ a. is_at_or_above x a.0 && is_full a) ws j ≡ true → some_entry (λ a. is_at_or_above x a.0) ws j ≡ true
    fewer j e =
        any_of (λ w. (w.id == j) && sets (λ a. is_at_or_above x a.0 && is_full a) w) (λ w. (w.id == j) && sets (λ a. is_at_or_above x a.0) w)
        (λ w f. both (w.id == j) (sets (λ a. is_at_or_above x a.0 && is_full a) w) (sets (λ a. is_at_or_above x a.0) w)
        (any_of (λ a. is_at_or_above x a.0 && is_full a) (λ a. is_at_or_above x a.0) (λ a g. first (is_at_or_above x a.0) (is_full a) g) w.entries) f)
        ws e

-- what a slice gives at a place
pub slice_got : (es : List Assignment) (i : ℕ) (o : Option Assignment) → is_some o ≡ nat_lt i (length es) → IfSome o (λ x. x ≡ get_or es i x) → o ≡ slice_get es i
slice_got es i None e h = sym (slice_get_past es i (ltb-false i (length es) (sym e)))
slice_got es i (Some x) e h = sym (slice_get_read es (length es) i x refl (ltb-true i (length es) (sym e)) h)
