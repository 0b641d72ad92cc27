-- A tree that is kept at a child's spot, laid in the child's place.
use Rattle.std.proofs.Common.{◌≡◌, ◌==◌, ◌<◌, ◌≤◌, ◌+◌, ℕ, Bool, true, false, cond, not, ◌&&◌, List, [], ◌∷◌, ◌++◌, length, length-append, append-nil, nat_lt, Option, Some, None, is_some, refl, sym, ap, subst, ◌∙◌, arith}
use Rattle.std.specs.List.{All, fold, list_any}
use Rattle.std.specs.Ordering.{nat_cmp}
use Rattle.std.specs.BTreeSet.{contains}
use mathlib.Core.Bool.{true≢false}
use Rattle.std.proofs.lemmas.Bool.{lt-ltb, ltb-false, ltb-true}
use Rattle.std.proofs.lemmas.List.Elements.{All-cons}
use Rattle.std.proofs.lemmas.List.Folds.{Any-from_list_any}
use Rattle.rt_tree.specs.PathTree.{Key, Path, PathTree, is_null, is_null-null, length-strip, levels, levels-null, null, null_of_levels, of_leaf, path_eq, path_eq-is, put, strip, strip-append}
use Rattle.rt_tree.specs.Leaf.{truth}
use Rattle.rt_tree.specs.Assignments.{Assignment, is_at_or_above, do_overlap}
use Rattle.rt_writes.specs.Writes.{Write, IsShallow, assignments, overlaid, overlaid_by, overlay, sets_whole, touches}
use Rattle.rt_writes.specs.laws.ShallowLaws.{shallow-fold, shallow-overlay}
use Rattle.rt_writes.specs.declared.spots.Spot.{Spot}
use Rattle.rt_writes.specs.inside.Spots.{under_of, has_here, within, some_entry, is_full, IsMergedAt, IsLast, IsShown, AreApart, LaysAt, after, marked}
use Rattle.rt_writes.proofs.NumberLaws.{Rising, any_of, or_right, whole_after}
use Rattle.rt_writes.proofs.LayLaws.{after_some, at_path, full_leaf, full_of_mark, last_of, later_new, none_above, one_level}
use Rattle.rt_writes.proofs.RowLaws.{not_above}
use Rattle.rt_writes.proofs.SpotLaws.{both_true}
use Rattle.rt_writes.proofs.TopLaws.{all_after}
use Rattle.rt_writes.proofs.KeptLaws.{shows_own}

-- what an entry at the child's path lays is put there
pub overlaid_child : (p : Path) (k : Key) (t u : PathTree) → overlaid p t (p ++ k ∷ [], u) ≡ put t (k ∷ []) u
overlaid_child p k t u = (λ i. overlaid_by (longer i) (strip-append p (k ∷ []) i) t u)
  where
    own : (q : Path) → strip q q ≡ Some []
    own q = ap (strip q) (sym (append-nil q)) ∙ strip-append q []

    longer : strip (p ++ k ∷ []) p ≡ None
    longer = elim (strip (p ++ k ∷ []) p) as (λ o. strip (p ++ k ∷ []) p ≡ o → o ≡ None) [
      | None ↦ λ e. refl
      | Some q ↦ λ e. absurd (not_above p k (p ++ k ∷ []) (ap is_some (own (p ++ k ∷ []))) (ap is_some e))
    ] refl

-- null, where something was set there since
pub marked_null : (p : Path) (k : Key) (t u : PathTree) → is_null u ≡ true → put (put t (k ∷ []) (of_leaf (truth true))) (k ∷ []) u ≡ fold (overlaid p) t (marked true (p ++ k ∷ [], u))
marked_null p k t u e =
    sym (ap (λ b. fold (overlaid p) t (cond b ((p ++ k ∷ [], of_leaf (truth true)) ∷ (p ++ k ∷ [], u) ∷ []) ((p ++ k ∷ [], u) ∷ []))) e
    ∙ overlaid_child p k (overlaid p t (p ++ k ∷ [], of_leaf (truth true))) u
    ∙ ap (λ z. put z (k ∷ []) u) (overlaid_child p k t (of_leaf (truth true))))

-- or another tree
pub marked_full : (p : Path) (k : Key) (t u : PathTree) → is_null u ≡ false → put t (k ∷ []) u ≡ fold (overlaid p) t (marked true (p ++ k ∷ [], u))
marked_full p k t u e =
    sym (ap (λ b. fold (overlaid p) t (cond b ((p ++ k ∷ [], of_leaf (truth true)) ∷ (p ++ k ∷ [], u) ∷ []) ((p ++ k ∷ [], u) ∷ []))) e ∙ overlaid_child p k t u)

-- an entry that sets something stands above a leaf
full_levels : (t : PathTree) → is_null t ≡ false → 1 ≤ levels t
full_levels t e = elim (nat_lt 0 (levels t)) as (λ b. nat_lt 0 (levels t) ≡ b → 1 ≤ levels t) [
  | true ↦ λ f. let l : 0 < levels t = ltb-true 0 (levels t) f in omega (arith, l)
  | false ↦ λ f.
      let le : levels t ≤ 0 = ltb-false 0 (levels t) f in
      absurd (true≢false (sym (ap is_null (null_of_levels t (omega (arith, le))) ∙ is_null-null) ∙ e))
] refl

-- so the path that it is at or below has no more than 32 keys
short_of : (ws : List Write) (x : Path) (j : ℕ) → All (λ w. All IsShallow w.entries) ws → some_entry (λ a. is_at_or_above x a.0 && is_full a) ws j ≡ true → length x ≤ 32
short_of ws x j kept e =
    let w = Any-from_list_any (λ w. (w.id == j) && list_any (λ a. is_at_or_above x a.0 && is_full a) w.entries) ws e in
    let es : List Assignment = w.1.entries in
    let shallow : All IsShallow es = subst (λ (v : Write). All IsShallow v.entries) w.3 (kept w.0 w.1 w.2) in
    let a = Any-from_list_any (λ a. is_at_or_above x a.0 && is_full a) es (both_true (w.1.id == j) (list_any (λ a. is_at_or_above x a.0 && is_full a) es) w.4).1 in
    let one : IsShallow a.1 = subst IsShallow a.3 (shallow a.0 a.1 a.2) in
    let both = both_true (is_at_or_above x a.1.0) (is_full a.1) a.4 in
    by a.1 one both.0 (turned (is_null a.1.1) both.1)
  where
    turned : (b : Bool) → not b ≡ true → b ≡ false
    turned true e = absurd (true≢false (sym e))
    turned false e = refl

    by : (a : Assignment) → IsShallow a → is_at_or_above x a.0 ≡ true → is_null a.1 ≡ false → length x ≤ 32
    by a one above full = elim (strip x a.0) as (λ o. strip x a.0 ≡ o → is_some o ≡ true → length x ≤ 32) [
      | None ↦ λ f g. absurd (true≢false (sym g))
      | Some q ↦ λ f g. let some : 1 ≤ levels a.1 = full_levels a.1 full in omega (arith, one, some, length-strip x a.0 q f)
    ] refl above

-- where a tree is laid at a path no leaf is too deep
shallow_at : (p x : Path) (t v : PathTree) → length p ≤ 32 → length x ≤ 32 → IsShallow (p, t) → IsShallow (x, v) → IsShallow (p, fold (overlaid p) t (marked true (x, v)))
shallow_at p x t v short fits h g =
    elim (is_null v) as (λ b. IsShallow (p, fold (overlaid p) t (cond b ((x, of_leaf (truth true)) ∷ (x, v) ∷ []) ((x, v) ∷ [])))) [
      | true ↦ shallow-fold p ((x, of_leaf (truth true)) ∷ (x, v) ∷ []) t (omega (arith, short)) h
          (All-cons IsShallow (x, of_leaf (truth true)) ((x, v) ∷ []) (let flat : levels (of_leaf (truth true)) ≤ 1 = one_level (of_leaf (truth true)) (truth true) refl in omega (arith, flat, fits))
          (All-cons IsShallow (x, v) [] g (λ k d lt. absurd (omega (arith, lt)))))
      | false ↦ shallow-fold p ((x, v) ∷ []) t (omega (arith, short)) h (All-cons IsShallow (x, v) [] g (λ k d lt. absurd (omega (arith, lt))))
    ]

module _ (ws : List Write) (p : Path) (k : Key) (c : Spot) (last : Option ℕ) (r : Rising ws) (apart : AreApart ws) (m : IsMergedAt ws (p ++ k ∷ []) c) (none : sets_whole (after last ws) p ≡ false) where
  abbrev x : Path
  x = p ++ k ∷ []

  marks : (j : ℕ) → contains nat_cmp (under_of c).full j ≡ some_entry (λ a. is_at_or_above x a.0 && is_full a) ws j
  marks j = m.full [] j ∙ ap (λ z. some_entry (λ a. is_at_or_above z a.0 && is_full a) ws j) (append-nil x)

  -- the last write that sets the whole of what stands there
  module _ (n : ℕ) (v : PathTree) (h : IsLast (λ j. has_here c [] j ≡ true) (Some n)) (s : IsShown c last (Some n) v) where
    here : some_entry (λ a. path_eq a.0 x) ws n ≡ true
    here = sym (m.here [] n ∙ ap (λ z. some_entry (λ a. path_eq a.0 z) ws n) (append-nil x)) ∙ h.0

    none_later : (j : ℕ) → n < j → some_entry (λ a. is_at_or_above a.0 x) ws j ≡ true → ⊥
    none_later j l e =
        cc (sym (ap (λ o. sets_whole (after o ws) x) (sym (later_new last n s.later)) ∙ none_above ws p k c last (Some n) m h none)
        ∙ after_some (λ a. is_at_or_above a.0 x) ws (Some n) j (lt-ltb n j l) e)

    -- what all writes make there
    made : (t : PathTree) → overlay x t ws ≡ v
    made t =
        shows_own ws n x t null r apart here none_later
        ∙ sym (m.trees [] v s.tree ∙ ap (λ z. fold (overlaid z) null (within (assignments ws) z)) (append-nil x))

    -- the later ones do too
    made_after : (t : PathTree) → overlay x t (after last ws) ≡ v
    made_after t =
        whole_after ws x [] x t last n r (sym (append-nil x)) s.later here
        ∙ sym (ap (overlay x t) (all_after ws) ∙ whole_after ws x [] x t None n r (sym (append-nil x)) refl here)
        ∙ made t

    lays : LaysAt ws x last (marked true (x, v))
    lays = record {
      within = at_path x true (x, v) refl;
      full = full_of_mark (x, v) full_leaf ∙ sym (after_some (λ a. is_at_or_above x a.0 && is_full a) ws last s.full.0 s.full.1 (sym (marks s.full.0) ∙ s.full.2));
      same = λ t. last_of x true (x, v) t refl ∙ sym (made_after t);
    }

    touched : touches ws p ≡ true
    touched =
        any_of (λ a. path_eq a.0 x) (λ a. do_overlap a.0 p)
        (λ a e. or_right (is_at_or_above a.0 p) (is_at_or_above p a.0) (ap (is_at_or_above p) (path_eq-is a.0 x e) ∙ ap is_some (strip-append p (k ∷ []))))
        (assignments ws) (ap (λ vs. list_any (λ a. path_eq a.0 x) (assignments vs)) (all_after ws) ∙ after_some (λ a. path_eq a.0 x) ws None n refl here)

    module _ (short : length p ≤ 32) (kept : All (λ w. All IsShallow w.entries) ws) where
      fits : length x ≤ 32
      fits = short_of ws x s.full.0 kept (sym (marks s.full.0) ∙ s.full.2)

      shallow : IsShallow (x, v)
      shallow = subst (λ u. IsShallow (x, u)) (made null) (shallow-overlay x null ws (omega (arith, fits)) (omega (arith, fits, levels-null)) kept)

  -- the tree lays what the later writes do
  pub lays_shown : (here : Option ℕ) (v : PathTree) → IsLast (λ j. has_here c [] j ≡ true) here → IsShown c last here v → LaysAt ws (p ++ k ∷ []) last (marked true (p ++ k ∷ [], v))
  lays_shown None v h s = absurd (true≢false (sym s.later))
  lays_shown (Some n) v h s = lays n v h s

  -- one of them touches the path
  pub touches_shown : (here : Option ℕ) (v : PathTree) → IsLast (λ j. has_here c [] j ≡ true) here → IsShown c last here v → touches ws p ≡ true
  touches_shown None v h s = absurd (true≢false (sym s.later))
  touches_shown (Some n) v h s = touched n v h s

  -- no leaf is too deep
  pub shallow_shown : (here : Option ℕ) (v : PathTree) → IsLast (λ j. has_here c [] j ≡ true) here → IsShown c last here v → length p ≤ 32 → All (λ w. All IsShallow w.entries) ws
      → (levels v ≤ 32) × ((t : PathTree) → IsShallow (p, t) → IsShallow (p, fold (overlaid p) t (marked true (p ++ k ∷ [], v))))
  shallow_shown None v h s short kept = absurd (true≢false (sym s.later))
  shallow_shown (Some n) v h s short kept =
      let deep : length x + levels v ≤ 33 = shallow n v h s short kept in (
        omega (arith, deep, length-append p (k ∷ [])),
        λ t g. shallow_at p x t v short (fits n v h s short kept) g deep,
      )
