-- The trees that spots keep: what they become when a write comes or goes, and what a look has of them.
use Rattle.std.proofs.Common.{◌≡◌, ◌==◌, ◌<◌, ℕ, Bool, true, false, cond, not, ◌&&◌, ◌||◌, List, [], ◌∷◌, ◌++◌, length, Option, Some, None, is_some, Result, Ok, Err, refl, sym, ap, subst, ◌∙◌, arith, eqb-true, ◌⊎◌, inl, inr, ⊎_elim}
use Rattle.std.specs.List.{fold, find, list_any}
use Rattle.std.specs.Option.{option_map, option_map_or}
use Rattle.std.specs.Prelude.{IsTrue, IfSome, IfOk, OnErr}
use Rattle.std.specs.BTreeMap.{BTreeMap, get, is_at}
use Rattle.std.specs.Map.{lookup}
use Rattle.std.specs.Ordering.{nat_cmp}
use Rattle.std.proofs.lemmas.Bool.{lt-ltb}
use Rattle.std.proofs.lemmas.List.Folds.{list_any-append}
use Rattle.std.proofs.lemmas.List.Sums.{fold-append}
use Rattle.std.proofs.lemmas.List.Elements.{filter-append, All-head, All-tail}
use Rattle.std.proofs.lemmas.List.Concat.{flat_map-append}
use mathlib.Core.List.{append-nil}
use Rattle.rt_tree.specs.PathTree.{Key, Path, PathTree, key_cmp, key_eq, key_eq-is, key_eq-same, key_eq-symm, path_eq, path_eq-is, path_eq-append, null, put, sub, strip, strip-more}
use Rattle.rt_tree.specs.Assignments.{Assignment, is_at_or_above, do_overlap, have_overlap}
use Rattle.rt_writes.specs.Writes.{Write, assignments, overlaid, overlaid_by, overlay, touches, without}
use Rattle.rt_writes.specs.laws.OverlayLaws.{fold-overlaid_part}
use Rattle.rt_writes.specs.laws.TouchLaws.{fold-untouched, fold-whole}
use Rattle.rt_writes.specs.declared.spots.Spot.{Spot}
use Rattle.rt_writes.specs.declared.marks.Marks.{Marks}
use Rattle.rt_writes.specs.declared.spots.Spot.TheViews.{out-roll-Spot}
use Rattle.rt_writes.specs.inside.Spots.{under_of, below_of, here_of, tree_at, has_here, within, with_put, some_entry, AddsAll, ForgetsAll, AddsTrees, KeepsTrees, KeepsPart, IsMerged, IsLast, IsAbove, AreApart, after}
use Rattle.rt_writes.proofs.AtChild.{at_itself}
use Rattle.rt_writes.proofs.LeafLaws.{overlaid-own, or_false}
use Rattle.rt_writes.proofs.NumberLaws.{After, Rising, sets, not_so, any_of, or_left, or_right, equal_itself, is_whole, TreesOf, merged_more, merged_less}
use Rattle.rt_writes.proofs.SpotLaws.{both_true, rolled, here_in}
use Rattle.rt_writes.proofs.LayLaws.{after_some}
use Rattle.rt_writes.proofs.TopLaws.{none_later}

-- ---- entries at or below a path
abbrev below : Path → Assignment → Bool
below q a = is_at_or_above q a.0

abbrev above : Path → Assignment → Bool
above q a = is_at_or_above a.0 q

abbrev at : Path → Assignment → Bool
at q a = path_eq a.0 q

within-append : (es fs : List Assignment) (q : Path) → within (es ++ fs) q ≡ within es q ++ within fs q
within-append es fs q = filter-append (below q) es fs

-- an entry at the path is above and below it
at_above : (q : Path) (a : Assignment) → at q a ≡ true → above q a ≡ true
at_above q a e = sym (at_itself a.0 q (path_eq-is a.0 q e))

at_below : (q : Path) (a : Assignment) → at q a ≡ true → below q a ≡ true
at_below q a e = sym (at_itself q a.0 (sym (path_eq-is a.0 q e)))

at_within : (q : Path) (es : List Assignment) → list_any (at q) es ≡ true → list_any (above q) (within es q) ≡ true
at_within q [] e = cc
at_within q (a ∷ es) e =
    elim (at q a) as (λ b. at q a ≡ b → (b || list_any (at q) es) ≡ true → list_any (above q) (within (a ∷ es) q) ≡ true) [
      | true ↦ λ f g.
          ap (λ b. list_any (above q) (cond b (a ∷ within es q) (within es q))) (at_below q a f)
          ∙ or_left (above q a) (list_any (above q) (within es q)) (at_above q a f)
      | false ↦ λ f g. elim (below q a) as (λ b. list_any (above q) (cond b (a ∷ within es q) (within es q)) ≡ true) [
        | true ↦ or_right (above q a) (list_any (above q) (within es q)) (at_within q es g)
        | false ↦ at_within q es g
      ]
    ] refl e

-- where one sits at the path, it doesn't count what was there before
whole_within : (q : Path) (es : List Assignment) (t u : PathTree) → list_any (at q) es ≡ true → fold (overlaid q) t (within es q) ≡ fold (overlaid q) u (within es q)
whole_within q es t u e = fold-whole q t u (within es q) (at_within q es e)

-- an entry beside the path
beside : (q : Path) (a : Assignment) (t : PathTree) → above q a ≡ false → below q a ≡ false → overlaid q t a ≡ t
beside q a t e f = fold-untouched q t (a ∷ []) (λ i. (e i || f i) || false)

-- where none is above the path, those below make all
only_within : (q : Path) (es : List Assignment) (t : PathTree) → list_any (above q) es ≡ false → fold (overlaid q) t es ≡ fold (overlaid q) t (within es q)
only_within q [] t e = refl
only_within q (a ∷ es) t e =
    let parts = or_false (above q a) (list_any (above q) es) e in
    elim (below q a) as (λ b. below q a ≡ b → fold (overlaid q) (overlaid q t a) es ≡ fold (overlaid q) t (cond b (a ∷ within es q) (within es q))) [
      | true ↦ λ f. only_within q es (overlaid q t a) parts.1
      | false ↦ λ f. ap (λ x. fold (overlaid q) x es) (beside q a t parts.0 f) ∙ only_within q es t parts.1
    ] refl

-- none of these meets the path, and so none of them is below it
none_within : (q : Path) (es : List Assignment) → list_any (λ a. do_overlap q a.0) es ≡ false → within es q ≡ []
none_within q [] e = refl
none_within q (a ∷ es) e =
    let parts = or_false (do_overlap q a.0) (list_any (λ a. do_overlap q a.0) es) e in
    ap (λ b. cond b (a ∷ within es q) (within es q)) (or_false (is_at_or_above q a.0) (is_at_or_above a.0 q) parts.0).0
    ∙ none_within q es parts.1

-- of entries that don't overlap one sits at the path
own_within : (q : Path) (es : List Assignment) (t u : PathTree) → have_overlap es ≡ false → list_any (at q) es ≡ true
    → fold (overlaid q) t es ≡ fold (overlaid q) u (within es q)
own_within q [] t u h e = cc
own_within q (a ∷ es) t u h e =
    let parts = or_false (list_any (λ b. do_overlap a.0 b.0) es) (have_overlap es) h in
    elim (at q a) as (λ b. at q a ≡ b → (b || list_any (at q) es) ≡ true → fold (overlaid q) (overlaid q t a) es ≡ fold (overlaid q) u (within (a ∷ es) q)) [
      | true ↦ λ f g.
          let is : a.0 ≡ q = path_eq-is a.0 q f in
          let apart : list_any (λ b. do_overlap q b.0) es ≡ false = ap (λ z. list_any (λ b. do_overlap z b.0) es) (sym is) ∙ parts.0 in
          fold-untouched q (overlaid q t a) es (ap (λ f. list_any f es) (λ i b. or_swap (is_at_or_above b.0 q) (is_at_or_above q b.0) i) ∙ apart)
          ∙ overlaid-own q t a is ∙ sym (overlaid-own q u a is)
          ∙ sym (ap (λ b. fold (overlaid q) u (cond b (a ∷ within es q) (within es q))) (at_below q a f) ∙ ap (fold (overlaid q) (overlaid q u a)) (none_within q es apart))
      | false ↦ λ f g.
          let apart : do_overlap a.0 q ≡ false = not_so (do_overlap a.0 q) (λ t. cc (sym parts.0 ∙ meets es g t)) in
          let two = or_false (above q a) (below q a) apart in
          ap (λ x. fold (overlaid q) x es) (beside q a t two.0 two.1)
          ∙ own_within q es t u parts.1 g
          ∙ sym (ap (λ b. fold (overlaid q) u (cond b (a ∷ within es q) (within es q))) two.1)
    ] refl e
  where
    or_swap : (a b : Bool) → (a || b) ≡ (b || a)
    or_swap true true = refl
    or_swap true false = refl
    or_swap false true = refl
    or_swap false false = refl

    meets : (fs : List Assignment) → list_any (at q) fs ≡ true → do_overlap a.0 q ≡ true → list_any (λ b. do_overlap a.0 b.0) fs ≡ true
    meets fs e t = any_of (at q) (λ b. do_overlap a.0 b.0) (λ b f. ap (do_overlap a.0) (path_eq-is b.0 q f) ∙ t) fs e

-- ---- one entry, spot by spot
abbrev pub tree_in : Option Spot → Path → Option PathTree
tree_in o q = option_map_or (λ c. tree_at c q) o None

under_rolled : (s : Spot) (h : BTreeMap ℕ ℕ) (u : Marks) (b : BTreeMap Key Spot) → under_of (rolled h u b) ≡ u
under_rolled s h u b = ap (λ r. r.under) (out-roll-Spot (record { here = h; under = u; below = b }))

below_rolled : (h : BTreeMap ℕ ℕ) (u : Marks) (b : BTreeMap Key Spot) → below_of (rolled h u b) ≡ b
below_rolled h u b = ap (λ r. r.below) (out-roll-Spot (record { here = h; under = u; below = b }))

-- where nothing is below a spot nothing is kept there
pub bare_tree : (s : Spot) → (under_of s).tree ≡ None → (below_of s).entries ≡ [] → (q : Path) → tree_at s q ≡ None
bare_tree s e f [] = e
bare_tree s e f (k ∷ q) = ap (λ es. option_map_or (λ c. tree_at c q) (lookup (is_at (key_cmp k)) es) None) f

-- away from the entry nothing is laid over
elsewhere : (q p : Path) (t u : PathTree) → is_at_or_above q p ≡ false → u ≡ fold (overlaid q) u (within ((p, t) ∷ []) q)
elsewhere q p t u e = sym (ap (λ b. fold (overlaid q) u (cond b ((p, t) ∷ []) [])) e)

-- below the first key all is as one key further down
shifted : (k : Key) (q p : Path) (t u : PathTree) → fold (overlaid q) u (within ((p, t) ∷ []) q) ≡ fold (overlaid (k ∷ q)) u (within ((k ∷ p, t) ∷ []) (k ∷ q))
shifted k q p t u =
    elim (is_some (strip q p)) as (λ b. fold (overlaid q) u (cond b ((p, t) ∷ []) []) ≡ fold (overlaid (k ∷ q)) u (cond b ((k ∷ p, t) ∷ []) [])) [
      | true ↦ sym (λ i. overlaid_by (same p q i) (same q p i) u t)
      | false ↦ refl
    ]
    ∙ ap (λ o. fold (overlaid (k ∷ q)) u (cond (is_some o) ((k ∷ p, t) ∷ []) [])) (sym (same q p))
  where
    same : (a b : Path) → strip (k ∷ a) (k ∷ b) ≡ strip a b
    same a b = ap (λ c. cond c (strip a b) None) (key_eq-same k)

pub trees_root : (old : Spot) (h : BTreeMap ℕ ℕ) (u : Marks) (t : PathTree) (keys : Path) → length keys ≡ 0
    → u.tree ≡ with_put (under_of old).tree keys t → AddsTrees old (rolled h u (below_of old)) ((keys, t) ∷ [])
trees_root old h u t (k ∷ keys) e puts = absurd (omega arith)
trees_root old h u t [] e puts = by
  where
    by : AddsTrees old (rolled h u (below_of old)) (([], t) ∷ [])
    by [] v is =
        let same : t ≡ v = cc (sym puts ∙ ap (λ m. m.tree) (sym (under_rolled old h u (below_of old))) ∙ is) in
        (null, sym same ∙ sym (overlaid-own [] null ([], t) refl), inl refl)
    by (k ∷ q) v is = (v, refl, inr (sym (ap (λ m. tree_in (get key_cmp m k) q) (below_rolled h u (below_of old))) ∙ is))

pub trees_below : (old : Spot) (u : Marks) (m : BTreeMap Key Spot) (k : Key) (rest : Path) (t : PathTree) (c : Spot)
    → ((x : Key) → get key_cmp m x ≡ cond (key_eq k x) (Some c) (get key_cmp (below_of old) x))
    → ((q : Path) (v : PathTree) → tree_at c q ≡ Some v → (w : PathTree) × (v ≡ fold (overlaid q) w (within ((rest, t) ∷ []) q))
    × (((path_eq rest q || false) ≡ true) ⊎ (tree_in (get key_cmp (below_of old) k) q ≡ Some w)))
    → (keys : Path) → keys ≡ k ∷ rest → u.tree ≡ with_put (under_of old).tree keys t → AddsTrees old (rolled (here_of old) u m) ((keys, t) ∷ [])
trees_below old u m k rest t c below kid keys is puts =
    subst (λ p. AddsTrees old (rolled (here_of old) u m) ((p, t) ∷ [])) (sym is) by
  where
    put_at : u.tree ≡ option_map (λ w. put w (k ∷ rest) t) (under_of old).tree
    put_at = puts ∙ ap (λ p. with_put (under_of old).tree p t) is

    by_root : (o : Option PathTree) (v : PathTree) → (under_of old).tree ≡ o → option_map (λ w. put w (k ∷ rest) t) o ≡ Some v
        → (w : PathTree) × (v ≡ put w (k ∷ rest) t) × (o ≡ Some w)
    by_root None v e f = cc
    by_root (Some w) v e f = let same : put w (k ∷ rest) t ≡ v = cc in (w, sym same, refl)

    by_key : (x : Key) (q : Path) (v : PathTree) (b : Bool) → key_eq k x ≡ b → tree_in (cond b (Some c) (get key_cmp (below_of old) x)) q ≡ Some v
        → (w : PathTree) × (v ≡ fold (overlaid (x ∷ q)) w (within ((k ∷ rest, t) ∷ []) (x ∷ q)))
        × (((path_eq (k ∷ rest) (x ∷ q) || false) ≡ true) ⊎ (tree_in (get key_cmp (below_of old) x) q ≡ Some w))
    by_key x q v true e f =
        let it = kid q v f in
        let same : k ≡ x = key_eq-is k x e in (
          it.0,
          it.1 ∙ shifted k q rest t it.0 ∙ ap (λ z. fold (overlaid (z ∷ q)) it.0 (within ((k ∷ rest, t) ∷ []) (z ∷ q))) same,
          ⊎_elim (λ g. inl (ap (λ b. b || false) (path_eq-append (k ∷ []) rest (x ∷ q) ∙ ap (λ b. option_map_or (path_eq rest) (cond b (Some q) None) false) e) ∙ g))
              (λ g. inr (ap (λ z. tree_in (get key_cmp (below_of old) z) q) (sym same) ∙ g)) it.2,
        )
    by_key x q v false e f = (v, elsewhere (x ∷ q) (k ∷ rest) t v (ap (λ b. is_some (cond b (strip q rest) None)) (key_eq-symm x k ∙ e)), inr f)

    by : AddsTrees old (rolled (here_of old) u m) ((k ∷ rest, t) ∷ [])
    by [] v e =
        let it = by_root (under_of old).tree v refl (sym put_at ∙ ap (λ z. z.tree) (sym (under_rolled old (here_of old) u m)) ∙ e) in
        (it.0, it.1, inr it.2)
    by (x ∷ q) v e =
        by_key x q v (key_eq k x) refl (ap (λ o. tree_in o q) (sym (below x)) ∙ ap (λ z. tree_in (get key_cmp z x) q) (sym (below_rolled (here_of old) u m)) ∙ e)

-- ---- entries one after another
pub trees_none : (s : Spot) → AddsTrees s s []
trees_none s q u e = (u, refl, inr e)

pub trees_more : (s old new : Spot) (es fs : List Assignment) (a : Assignment) → AddsTrees s old es → AddsTrees old new (a ∷ []) → fs ≡ es ++ a ∷ [] → AddsTrees s new fs
trees_more s old new es fs a before now is = subst (AddsTrees s new) (sym is) by
  where
    by : AddsTrees s new (es ++ a ∷ [])
    by q u e = let it = now q u e in ⊎_elim (λ g. here it.0 it.1 g) (λ g. further it.0 it.1 (before q it.0 g)) it.2
      where
        joined : (t : PathTree) → fold (overlaid q) (fold (overlaid q) t (within es q)) (within (a ∷ []) q) ≡ fold (overlaid q) t (within (es ++ a ∷ []) q)
        joined t = sym (ap (fold (overlaid q) t) (within-append es (a ∷ []) q) ∙ fold-append (overlaid q) t (within es q) (within (a ∷ []) q))

        some : list_any (at q) (a ∷ []) ≡ true → list_any (at q) (es ++ a ∷ []) ≡ true
        some g = list_any-append (at q) es (a ∷ []) ∙ or_right (list_any (at q) es) (list_any (at q) (a ∷ [])) g

        here : (t : PathTree) → u ≡ fold (overlaid q) t (within (a ∷ []) q) → list_any (at q) (a ∷ []) ≡ true
            → (t : PathTree) × (u ≡ fold (overlaid q) t (within (es ++ a ∷ []) q)) × ((list_any (at q) (es ++ a ∷ []) ≡ true) ⊎ (tree_at s q ≡ Some t))
        here t f g = (null, f ∙ whole_within q (a ∷ []) t (fold (overlaid q) null (within es q)) g ∙ joined null, inl (some g))

        further : (t : PathTree) → u ≡ fold (overlaid q) t (within (a ∷ []) q)
            → (v : PathTree) × (t ≡ fold (overlaid q) v (within es q)) × ((list_any (at q) es ≡ true) ⊎ (tree_at s q ≡ Some v))
            → (t : PathTree) × (u ≡ fold (overlaid q) t (within (es ++ a ∷ []) q)) × ((list_any (at q) (es ++ a ∷ []) ≡ true) ⊎ (tree_at s q ≡ Some t))
        further t f g = (
          g.0,
          f ∙ ap (λ x. fold (overlaid q) x (within (a ∷ []) q)) g.1 ∙ joined g.0,
          ⊎_elim (λ h. inl (list_any-append (at q) es (a ∷ []) ∙ or_left (list_any (at q) es) (list_any (at q) (a ∷ [])) h)) (λ h. inr h) g.2,
        )

-- what is kept, with the entries of one write more
trees_with : (ws : List Write) (w : Write) (r s : Spot) → AddsTrees r s w.entries → TreesOf ws r → TreesOf (ws ++ w ∷ []) s
trees_with ws w r s h before q u e =
    let it = h q u e in
    it.1
    ∙ ⊎_elim {C = fold (overlaid q) it.0 (within w.entries q) ≡ fold (overlaid q) (fold (overlaid q) null (within (assignments ws) q)) (within w.entries q)}
    (λ g. whole_within q w.entries it.0 (fold (overlaid q) null (within (assignments ws) q)) g)
    (λ g. ap (λ x. fold (overlaid q) x (within w.entries q)) (before q it.0 g)) it.2
    ∙ sym (ap (λ es. fold (overlaid q) null (within es q)) (flat_map-append (λ w. w.entries) ws (w ∷ []) ∙ ap (λ es. assignments ws ++ es) (append-nil w.entries))
    ∙ ap (fold (overlaid q) null) (within-append (assignments ws) w.entries q)
    ∙ fold-append (overlaid q) null (within (assignments ws) q) (within w.entries q))

-- ---- entries go
pub keeps_none : (s : Spot) (id : ℕ) → KeepsTrees s s [] id
keeps_none s id q u e = (e, inl refl)

pub keeps_more : (s old new : Spot) (es fs : List Assignment) (a : Assignment) (id : ℕ) → ((q : Path) (j : ℕ) → has_here old q j ≡ true → has_here s q j ≡ true)
    → KeepsTrees s old es id → KeepsTrees old new (a ∷ []) id → fs ≡ es ++ a ∷ [] → KeepsTrees s new fs id
keeps_more s old new es fs a id had before now is = subst (λ xs. KeepsTrees s new xs id) (sym is) by
  where
    by : KeepsTrees s new (es ++ a ∷ []) id
    by q u e =
        let it = now q u e in
        let first = before q u it.0 in (
          first.0,
          ⊎_elim (λ g. ⊎_elim (λ h. inl (list_any-append (λ a. is_at_or_above q a.0) es (a ∷ []) ∙ (λ i. h i || g i))) (λ h. inr h) first.1)
              (λ g. inr (g.0, g.1, had q g.0 g.2)) it.1,
        )

pub keeps_root : (old : Spot) (h : BTreeMap ℕ ℕ) (u : Marks) (t : PathTree) (keys : Path) (id : ℕ) (b : Bool) → length keys ≡ 0
    → IfSome u.tree (λ t. ((under_of old).tree ≡ Some t) × IsTrue b) → (IsTrue b → (j : ℕ) × (id < j) × (has_here old [] j ≡ true))
    → KeepsTrees old (rolled h u (below_of old)) ((keys, t) ∷ []) id
keeps_root old h u t (k ∷ keys) id b e kept later = absurd (omega arith)
keeps_root old h u t [] id b e kept later = by
  where
    by : KeepsTrees old (rolled h u (below_of old)) (([], t) ∷ []) id
    by [] v is =
        let it = subst (λ o. IfSome o (λ t. ((under_of old).tree ≡ Some t) × IsTrue b)) (ap (λ m. m.tree) (sym (under_rolled old h u (below_of old))) ∙ is) kept in
        (it.0, inr (later it.1))
    by (k ∷ q) v is = (sym (ap (λ m. tree_in (get key_cmp m k) q) (below_rolled h u (below_of old))) ∙ is, inl refl)

pub keeps_below : (old : Spot) (u : Marks) (m : BTreeMap Key Spot) (k : Key) (rest : Path) (t : PathTree) (o : Option Spot) (id : ℕ) (b : Bool)
    → ((x : Key) → get key_cmp m x ≡ cond (key_eq k x) o (get key_cmp (below_of old) x))
    → ((q : Path) (v : PathTree) → tree_in o q ≡ Some v → (tree_in (get key_cmp (below_of old) k) q ≡ Some v)
    × (((is_at_or_above q rest || false) ≡ false) ⊎ ((j : ℕ) × (id < j) × (here_in (get key_cmp (below_of old) k) q j ≡ true))))
    → IfSome u.tree (λ t. ((under_of old).tree ≡ Some t) × IsTrue b) → (IsTrue b → (j : ℕ) × (id < j) × (has_here old [] j ≡ true))
    → (keys : Path) → keys ≡ k ∷ rest → KeepsTrees old (rolled (here_of old) u m) ((keys, t) ∷ []) id
keeps_below old u m k rest t o id b below kid kept later keys is =
    subst (λ p. KeepsTrees old (rolled (here_of old) u m) ((p, t) ∷ []) id) (sym is) by
  where
    by_key : (x : Key) (q : Path) (v : PathTree) (c : Bool) → key_eq k x ≡ c → tree_in (cond c o (get key_cmp (below_of old) x)) q ≡ Some v
        → (tree_in (get key_cmp (below_of old) x) q ≡ Some v)
        × (((is_at_or_above (x ∷ q) (k ∷ rest) || false) ≡ false) ⊎ ((j : ℕ) × (id < j) × (here_in (get key_cmp (below_of old) x) q j ≡ true)))
    by_key x q v true e f =
        let it = kid q v f in
        let same : k ≡ x = key_eq-is k x e in (
          ap (λ z. tree_in (get key_cmp (below_of old) z) q) (sym same) ∙ it.0,
          ⊎_elim (λ g. inl (ap (λ c. is_some (cond c (strip q rest) None) || false) (key_eq-symm x k ∙ e) ∙ g))
              (λ g. inr (g.0, g.1, ap (λ z. here_in (get key_cmp (below_of old) z) q g.0) (sym same) ∙ g.2)) it.1,
        )
    by_key x q v false e f = (f, inl (ap (λ c. is_some (cond c (strip q rest) None) || false) (key_eq-symm x k ∙ e)))

    by : KeepsTrees old (rolled (here_of old) u m) ((k ∷ rest, t) ∷ []) id
    by [] v e =
        let it = subst (λ o. IfSome o (λ t. ((under_of old).tree ≡ Some t) × IsTrue b)) (ap (λ m. m.tree) (sym (under_rolled old (here_of old) u m)) ∙ e) kept in
        (it.0, inr (later it.1))
    by (x ∷ q) v e =
        by_key x q v (key_eq k x) refl (ap (λ c. tree_in c q) (sym (below x)) ∙ ap (λ z. tree_in (get key_cmp z x) q) (sym (below_rolled (here_of old) u m)) ∙ e)

-- ---- one write goes
joined_entries : (w : Write) (ws : List Write) (q : Path) (t : PathTree)
    → fold (overlaid q) t (within (assignments (w ∷ ws)) q) ≡ fold (overlaid q) (fold (overlaid q) t (within w.entries q)) (within (assignments ws) q)
joined_entries w ws q t = ap (fold (overlaid q) t) (within-append w.entries (assignments ws) q) ∙ fold-append (overlaid q) t (within w.entries q) (within (assignments ws) q)

-- no later write has that number
pub none_without : (id : ℕ) (ws : List Write) → After id ws → without id ws ≡ ws
none_without id [] h = refl
none_without id (w ∷ ws) h =
    let less : id < w.id = h.0 in
    ap (λ b. cond (not b) (w ∷ without id ws) (without id ws)) (not_so (w.id == id) (λ e. let same : w.id ≡ id = eqb-true w.id id e in absurd (omega arith)))
    ∙ ap (λ vs. w ∷ vs) (none_without id ws h.1)

after_less : (m n : ℕ) (ws : List Write) → m < n → After n ws → After m ws
after_less m n [] l h = tt
after_less m n (w ∷ ws) l h = let less : n < w.id = h.0 in (omega arith, after_less m n ws l h.1)

pub no_within : (q : Path) (es : List Assignment) → list_any (below q) es ≡ false → within es q ≡ []
no_within q [] e = refl
no_within q (a ∷ es) e =
    let parts = or_false (below q a) (list_any (below q) es) e in
    ap (λ b. cond b (a ∷ within es q) (within es q)) parts.0 ∙ no_within q es parts.1

-- away from its entries
apart_without : (ws : List Write) (w : Write) (id : ℕ) (q : Path) (t : PathTree) → Rising ws → find (λ v. v.id == id) ws ≡ Some w → list_any (below q) w.entries ≡ false
    → fold (overlaid q) t (within (assignments ws) q) ≡ fold (overlaid q) t (within (assignments (without id ws)) q)
apart_without [] w id q t r e none = refl
apart_without (v ∷ ws) w id q t r e none =
    joined_entries v ws q t
    ∙ elim (v.id == id) as (λ b. (v.id == id) ≡ b → cond b (Some v) (find (λ v. v.id == id) ws) ≡ Some w
    → fold (overlaid q) (fold (overlaid q) t (within v.entries q)) (within (assignments ws) q) ≡ fold (overlaid q) t (within (assignments (cond (not b) (v ∷ without id ws) (without id ws))) q)) [
      | true ↦ λ s f.
          let is : v ≡ w = cc in
          ap (λ es. fold (overlaid q) (fold (overlaid q) t es) (within (assignments ws) q)) (ap (λ u. within u.entries q) is ∙ no_within q w.entries none)
          ∙ ap (λ vs. fold (overlaid q) t (within (assignments vs) q)) (sym (none_without id ws (subst (λ n. After n ws) (eqb-true v.id id s) r.0)))
      | false ↦ λ s f. apart_without ws w id q (fold (overlaid q) t (within v.entries q)) r.1 f none ∙ sym (joined_entries v (without id ws) q t)
    ] refl e

-- and where a later write sets the whole of what stands
hidden_without : (ws : List Write) (id j : ℕ) (q : Path) (t u : PathTree) → Rising ws → id < j → some_entry (at q) ws j ≡ true
    → fold (overlaid q) t (within (assignments ws) q) ≡ fold (overlaid q) u (within (assignments (without id ws)) q)
hidden_without [] id j q t u r less e = cc
hidden_without (v ∷ ws) id j q t u r less e =
    elim ((v.id == j) && sets (at q) v) as (λ b. ((v.id == j) && sets (at q) v) ≡ b → (b || some_entry (at q) ws j) ≡ true
    → fold (overlaid q) t (within (assignments (v ∷ ws)) q) ≡ fold (overlaid q) u (within (assignments (without id (v ∷ ws))) q)) [
      | true ↦ λ f g.
          let both = both_true (v.id == j) (sets (at q) v) f in
          let same : v.id ≡ j = eqb-true v.id j both.0 in
          joined_entries v ws q t
          ∙ ap (λ x. fold (overlaid q) x (within (assignments ws) q)) (whole_within q v.entries t u both.1)
          ∙ sym (joined_entries v ws q u)
          ∙ ap (λ vs. fold (overlaid q) u (within (assignments vs) q)) (sym (none_without id (v ∷ ws) (omega arith, after_less id v.id ws (omega arith) r.0)))
      | false ↦ λ f g.
          joined_entries v ws q t
          ∙ elim (v.id == id) as (λ b. fold (overlaid q) (fold (overlaid q) t (within v.entries q)) (within (assignments ws) q)
          ≡ fold (overlaid q) u (within (assignments (cond (not b) (v ∷ without id ws) (without id ws))) q)) [
            | true ↦ hidden_without ws id j q (fold (overlaid q) t (within v.entries q)) u r.1 less g
            | false ↦
                hidden_without ws id j q (fold (overlaid q) t (within v.entries q)) (fold (overlaid q) u (within v.entries q)) r.1 less g
                ∙ sym (joined_entries v (without id ws) q u)
          ]
    ] refl e

-- what is kept, without the entries of one write
trees_without : (ws : List Write) (r s : Spot) (id : ℕ) (es : List Assignment) → KeepsTrees r s es id → Rising ws
    → find (λ w. w.id == id) ws ≡ Some (record { id = id; entries = es })
    → ((q : Path) (j : ℕ) → has_here r q j ≡ some_entry (λ a. path_eq a.0 q) ws j)
    → TreesOf ws r → TreesOf (without id ws) s
trees_without ws r s id es h rises found here before q u e =
    let it = h q u e in
    before q u it.0
    ∙ ⊎_elim {C = fold (overlaid q) null (within (assignments ws) q) ≡ fold (overlaid q) null (within (assignments (without id ws)) q)}
    (λ g. apart_without ws (record { id = id; entries = es }) id q null rises found g)
    (λ g. hidden_without ws id g.0 q null null rises g.1 (sym (here q g.0) ∙ g.2)) it.1

-- ---- all that is kept
pub more_merged : (ws : List Write) (r s : Spot) (id : ℕ) (es : List Assignment) → AddsAll r s es id → AddsTrees r s es → IsMerged ws r
    → IsMerged (ws ++ record { id = id; entries = es } ∷ []) s
more_merged ws r s id es h g m = merged_more ws r s id es h (trees_with ws (record { id = id; entries = es }) r s g m.trees) m

pub less_merged : (ws : List Write) (r s : Spot) (id : ℕ) (es : List Assignment) → ForgetsAll r s es id → KeepsTrees r s es id → Rising ws
    → find (λ w. w.id == id) ws ≡ Some (record { id = id; entries = es }) → IsMerged ws r → IsMerged (without id ws) s
less_merged ws r s id es h g rises e m = merged_less ws r s id es h (trees_without ws r s id es g rises e m.here m.trees) rises e m

-- ---- a look
-- writes with later numbers, none of which is at or above the path
none_later_above : (ws : List Write) (m : ℕ) (q : Path) → After m ws → ((j : ℕ) → m < j → some_entry (above q) ws j ≡ true → ⊥) → list_any (above q) (assignments ws) ≡ false
none_later_above [] m q r h = refl
none_later_above (w ∷ ws) m q r h =
    list_any-append (above q) w.entries (assignments ws)
    ∙ (λ i. not_so (sets (above q) w) (λ t. h w.id r.0 (or_left ((w.id == w.id) && sets (above q) w) (some_entry (above q) ws w.id) (ap (λ b. b && sets (above q) w) (equal_itself w.id) ∙ t))) i
    || none_later_above ws m q r.1 (λ j l t. h j l (or_right ((w.id == j) && sets (above q) w) (some_entry (above q) ws j) t)) i)

-- where the last write at or above the path is at the path itself, the entries above don't count
pub shows_own : (ws : List Write) (m : ℕ) (q : Path) (t u : PathTree) → Rising ws → AreApart ws → some_entry (at q) ws m ≡ true
    → ((j : ℕ) → m < j → some_entry (above q) ws j ≡ true → ⊥) → fold (overlaid q) t (assignments ws) ≡ fold (overlaid q) u (within (assignments ws) q)
shows_own [] m q t u r apart e none = cc
shows_own (w ∷ ws) m q t u r apart e none =
    fold-append (overlaid q) t w.entries (assignments ws)
    ∙ elim ((w.id == m) && sets (at q) w) as (λ b. ((w.id == m) && sets (at q) w) ≡ b → (b || some_entry (at q) ws m) ≡ true
    → fold (overlaid q) (fold (overlaid q) t w.entries) (assignments ws) ≡ fold (overlaid q) u (within (assignments (w ∷ ws)) q)) [
      | true ↦ λ f g.
          let both = both_true (w.id == m) (sets (at q) w) f in
          let same : w.id ≡ m = eqb-true w.id m both.0 in
          ap (λ x. fold (overlaid q) x (assignments ws)) (own_within q w.entries t u (All-head (λ w. have_overlap w.entries ≡ false) w ws apart) both.1)
          ∙ only_within q (assignments ws) (fold (overlaid q) u (within w.entries q)) (none_later_above ws m q (subst (λ n. After n ws) same r.0) more)
          ∙ sym (joined_entries w ws q u)
      | false ↦ λ f g.
          shows_own ws m q (fold (overlaid q) t w.entries) (fold (overlaid q) u (within w.entries q)) r.1 (All-tail (λ w. have_overlap w.entries ≡ false) w ws apart) g more
          ∙ sym (joined_entries w ws q u)
    ] refl e
  where
    more : (j : ℕ) → m < j → some_entry (above q) ws j ≡ true → ⊥
    more j l x = none j l (or_right ((w.id == j) && sets (above q) w) (some_entry (above q) ws j) x)

above_more : (a x y : Path) → is_at_or_above a x ≡ true → is_at_or_above a (x ++ y) ≡ true
above_more a x y e = elim (strip a x) as (λ o. strip a x ≡ o → is_some o ≡ true → is_at_or_above a (x ++ y) ≡ true) [
  | None ↦ λ f g. cc
  | Some r ↦ λ f g. ap is_some (strip-more a x r y f)
] refl e

-- what is kept where the last write shows is what all writes make
pub kept_shows : (ws : List Write) (s : Spot) (p : Path) (m : ℕ) (u t : PathTree) → Rising ws → AreApart ws → IsMerged ws s → IsLast (IsAbove s p) (Some m)
    → KeepsPart s p m u → u ≡ overlay p t ws
kept_shows ws s p m u t r apart h last (x, y, v, is, has, tree, part) =
    part ∙ ap (λ z. sub z y) (h.trees x v tree ∙ sym (shows_own ws m x null null r apart (sym (h.here x m) ∙ has) none))
    ∙ fold-overlaid_part x y (assignments ws) null
    ∙ ap (λ z. overlay z (sub null y) ws) (sym is)
    ∙ fold-whole p (sub null y) t (assignments ws) (sym (is_whole ws s p (Some m) h last))
  where
    none : (j : ℕ) → m < j → some_entry (above x) ws j ≡ true → ⊥
    none j l e =
        let on : some_entry (above p) ws j ≡ true =
        any_of (λ w. (w.id == j) && sets (above x) w) (λ w. (w.id == j) && sets (above p) w)
        (λ w f. let both = both_true (w.id == j) (sets (above x) w) f in (λ i. both.0 i
        && any_of (above x) (above p) (λ a g. ap (is_at_or_above a.0) is ∙ above_more a.0 x y g) w.entries both.1 i)) ws e in
        let later : list_any (above p) (assignments (after (Some m) ws)) ≡ true = after_some (above p) ws (Some m) j (lt-ltb m j l) on in
        cc (sym (none_later ws s p (Some m) h last) ∙ later)

-- a last write at or above the path touches it
pub touches_last : (ws : List Write) (s : Spot) (p : Path) (m : ℕ) → IsMerged ws s → IsLast (IsAbove s p) (Some m) → touches ws p ≡ true
touches_last ws s p m h last =
    any_of (above p) (λ a. do_overlap a.0 p) (λ a e. or_left (above p a) (below p a) e) (assignments ws) (sym (is_whole ws s p (Some m) h last))

pub kept_all : {E : Type 0} (r : Result (Option PathTree) E) (ws : List Write) (s : Spot) (p : Path) (m : ℕ) → Rising ws → AreApart ws → IsMerged ws s → IsLast (IsAbove s p) (Some m)
    → IfOk r (λ o. IfSome o (λ u. KeepsPart s p m u)) → IfOk r (λ o. IfSome o (λ u. (t : PathTree) → u ≡ overlay p t ws))
kept_all (Err e) ws s p m r apart h last k = tt
kept_all (Ok None) ws s p m r apart h last k = tt
kept_all (Ok (Some u)) ws s p m r apart h last k = λ t. kept_shows ws s p m u t r apart h last k

pub on_err : {X E P : Type 0} (r : Result X E) → P → OnErr r P
on_err (Ok x) h = tt
on_err (Err e) h = h

-- ---- where the last write shows
pub keeps_here : (s : Spot) (keys : Path) (id : ℕ) (t u : PathTree) (b : Bool) → b ≡ is_some (get nat_cmp (here_of s) id) → b ≡ true
    → (under_of s).tree ≡ Some t → u ≡ sub t keys → KeepsPart s keys id u
keeps_here s keys id t u b is has tree part = ([], keys, t, refl, sym is ∙ has, tree, part)

pub keeps_child : {E : Type 0} (r : Result (Option PathTree) E) (s c : Spot) (keys : Path) (k : Key) (rest : Path) (id : ℕ) → keys ≡ k ∷ rest
    → get key_cmp (below_of s) k ≡ Some c → IfOk r (λ o. IfSome o (λ u. KeepsPart c rest id u)) → IfOk r (λ o. IfSome o (λ u. KeepsPart s keys id u))
keeps_child (Err e) s c keys k rest id at got h = tt
keeps_child (Ok None) s c keys k rest id at got h = tt
keeps_child (Ok (Some u)) s c keys k rest id at got (x, y, t, is, has, tree, part) =
    (k ∷ x, y, t, at ∙ ap (λ z. k ∷ z) is, ap (λ z. here_in z x id) got ∙ has, ap (λ z. tree_in z x) got ∙ tree, part)

-- ---- a tree put below keys
pub put_at_none : (keys : Path) (o : Option PathTree) (t : PathTree) → length keys ≡ 0 → Some t ≡ with_put o keys t
put_at_none [] o t e = refl
put_at_none (k ∷ keys) o t e = absurd (omega arith)

pub put_at_some : (keys : Path) (o : Option PathTree) (t : PathTree) → (length keys ≡ 0 → ⊥) → option_map (λ w. put w keys t) o ≡ with_put o keys t
put_at_some [] o t e = absurd (e refl)
put_at_some (k ∷ keys) o t e = refl
