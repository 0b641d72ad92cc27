-- What is brought stays no deeper than trees are.
use Rattle.std.proofs.Common.{◌≡◌, ◌+◌, ◌-◌, ◌<◌, ◌≤◌, Bool, true, false, cond, not, ◌&&◌, List, []}
use Rattle.std.proofs.Common.{◌∷◌, ◌++◌, length, Option, Some, None, is_some, refl, sym, ap, subst, ◌∙◌}
use Rattle.std.proofs.Common.{arith, length-append, get_or, drop, ◌||◌, ℕ, below_more, OnOk, OnErr}
use Rattle.std.specs.Prelude.{IfSome}
use Rattle.std.specs.declared.result.Result.{Result}
use Rattle.std.specs.declared.result.Result.TheVariants.{Ok, Err}
use Rattle.std.specs.Ordering.{eq_by_cmp}
use Rattle.std.specs.Cmp.{Equal-is}
use Rattle.std.specs.List.{filter, flat_map, All}
use Rattle.std.specs.Option.{option_map, option_map_or, option_or, option_and_then}
use Rattle.std.proofs.lemmas.List.{get_or_default, drop_more}
use Rattle.std.proofs.lemmas.List.Folds.{list_any-append}
use Rattle.std.proofs.lemmas.List.Elements.{All-head, All-tail, All-filter, All-weaker, All-append, All-contains}
use Rattle.rt_tree.specs.declared.limits.TheConstants.{MAX_LEVELS, MAX_KEYS}
use Rattle.rt_tree.specs.Leaf.{LeafValue}
use Rattle.rt_tree.specs.Path.{IsPath}
use Rattle.rt_tree.specs.PathTree.{Key, Path, PathTree, strip, strip-append, length-strip, shown, leaf_at}
use Rattle.rt_tree.specs.PathTree.{leaf_at-sub, leaf_at-put, leaf_at-children_alone}
use Rattle.rt_tree.specs.PathTree.{leaf_of-children_alone, after_put, is_null, sub, put, children_alone}
use Rattle.rt_tree.specs.PathTree.{levels, levels_le, length_lt_levels}
use Rattle.rt_tree.specs.Assignments.{Assignment, is_at_or_above}
use Rattle.rt_tree.specs.TreeEq.{both_first, both_second}
use Rattle.rt_query.specs.Queries.{Query, is_filtered}
use Rattle.rt_query.specs.Supply.{does_supply}
use Rattle.rt_query.specs.laws.SupplyLaws.{supplied_has_path}
use Rattle.rt_query.specs.QueryOrder.{query_cmp}
use Rattle.rt_cache.specs.Brought.{Window, Brought, Base, region_part, region_put, window_of}
use Rattle.rt_cache.specs.Brought.{window_pushed, windows_pushed, push_plain, push, base, base_child}
use Rattle.rt_cache.specs.Brought.{child_base}
use Rattle.rt_cache.specs.Canonical.{FitsLevels}
use Rattle.rt_cache.specs.Recover.{reaches, part_for, parts_of, is_among, window_left}
use Rattle.rt_cache.specs.Recover.{in_query_order, cut, heirs, handed_on, recover}
use Rattle.rt_cache.specs.declared.regions.Region.{Region}
use Rattle.rt_cache.specs.declared.windows.Window as inside
use Rattle.rt_cache.specs.inside.Held.{held, pairs_of, entries_of, pushed_windows, AreShort}
use Rattle.rt_cache.specs.inside.Sources.{source_among}
use Rattle.rt_cache.specs.declared.by_path.Span.{Span}
use Rattle.rt_cache.specs.inside.Spans.{has_place, have_place}
use Rattle.rt_cache.proofs.Heirs.{heir_is, handed_all}
use Rattle.rt_cache.proofs.Pushes.{push_of_filtered, push_of_plain}
use Rattle.rt_query.specs.laws.QueryOrder.{exact_queries}
use Rattle.rt_cache.proofs.RecoverLaws.{All-filter_map, All-flat_map, with_all, listed_all}
use Rattle.rt_cache.proofs.RecoverLaws.{pushed_all, pushed_windows_all}
use Rattle.rt_cache.proofs.Sources.{found_all, find_passes, has_it, of_window, region_base, window_base}
use Rattle.rt_cache.proofs.Stays.{Regions, Windows, AreFiltered}

-- no leaf of a tree at the path stands under more than 32 keys
abbrev pub Fits : Path → PathTree → Type 0
Fits p t = length p + levels t ≤ MAX_LEVELS

abbrev RegionFits : Path × PathTree → Type 0
RegionFits r = length r.0 + levels r.1 ≤ MAX_LEVELS

abbrev WindowFits : Query × Window → Type 0
WindowFits w = length (w.0).path + levels (w.1).children ≤ MAX_LEVELS

-- ---- queries

-- the paths of the queries so far are short, and that of the next
pub short_more : (queries : List Query) (n : ℕ) (q : Query) → n < length queries
    → q ≡ get_or queries n q → length q.path ≤ MAX_KEYS
    → ((k : ℕ) (d : Query) → k < n → length (get_or queries k d).path ≤ MAX_KEYS)
    → (k : ℕ) (d : Query) → k < n + 1 → length (get_or queries k d).path ≤ MAX_KEYS
short_more queries n q lt at short before k d h =
    below_more (λ j. length (get_or queries j d).path ≤ MAX_KEYS) n (λ j g. before j d g)
    (subst (λ (x : Query). length x.path ≤ MAX_KEYS) (at ∙ sym (get_or_default queries n d q lt)) short)
    k h

-- the span of a plain listen's regions behind those of the listens in front
pub span_more : (kept : List Query) (n : ℕ) (q : Query) (spans : List Span) (s : Span) (k : ℕ) (p : Path)
    → n < length kept → q ≡ get_or kept n q → is_filtered q ≡ false
    → is_at_or_above q.path p ≡ has_place k s
    → (have_place (spans ++ s ∷ []) k || reaches (drop (n + 1) kept) p)
    ≡ (have_place spans k || reaches (drop n kept) p)
span_more kept n q spans s k p lt at plain exact =
    ap (λ b. b || reaches (drop (n + 1) kept) p) (list_any-append (has_place k) spans (s ∷ []))
    ∙ moved (have_place spans k) (has_place k s) (reaches (drop (n + 1) kept) p)
    ∙ ap (λ b. have_place spans k || (b || reaches (drop (n + 1) kept) p)) (sym exact)
    ∙ ap (λ f. have_place spans k || ((not f && is_at_or_above q.path p)
    || reaches (drop (n + 1) kept) p)) (sym plain)
    ∙ ap (λ (x : Query). have_place spans k || ((not (is_filtered x) && is_at_or_above x.path p)
    || reaches (drop (n + 1) kept) p)) at
    ∙ ap (λ qs. have_place spans k || reaches qs p) (sym (drop_more kept n q lt))
  where
    moved : (a b c : Bool) → ((a || (b || false)) || c) ≡ (a || (b || c))
    moved true b c = refl
    moved false true c = refl
    moved false false c = refl

-- a filtered one reaches nothing
pub reaches_less : (kept : List Query) (n : ℕ) (q : Query) (p : Path) → n < length kept
    → q ≡ get_or kept n q → is_filtered q ≡ true
    → reaches (drop (n + 1) kept) p ≡ reaches (drop n kept) p
reaches_less kept n q p lt at filtered =
    ap (λ f. (not f && is_at_or_above q.path p) || reaches (drop (n + 1) kept) p) (sym filtered)
    ∙ ap (λ (x : Query). (not (is_filtered x) && is_at_or_above x.path p)
    || reaches (drop (n + 1) kept) p) at
    ∙ ap (λ qs. reaches qs p) (sym (drop_more kept n q lt))

-- a path is as short as a method of it says
pub short_path : (q : Query) (p : Path) → p ≡ q.path → IsPath p → length q.path ≤ MAX_KEYS
short_path q p e h = subst (λ (x : Path). length x ≤ MAX_KEYS) e h.short

-- ---- trees

-- a part of a tree
part_fits : (e p r : Path) (u : PathTree) → strip e p ≡ Some r → length p ≤ MAX_LEVELS → Fits e u
    → Fits p (sub u r)
part_fits e p r u s short h =
    let less : levels (sub u r) ≤ 33 - length p = levels_le (sub u r) (33 - length p) (λ q l f.
    let deep : length (r ++ q) < levels u =
    length_lt_levels u (r ++ q) l (sym (leaf_at-sub u r q) ∙ f) in
    omega (arith, length-append r q, length-strip e p r s)) in
    omega arith

-- a tree that is put at the path or below
put_fits : (p e r : Path) (t u : PathTree) → strip p e ≡ Some r → Fits p t → Fits e u
    → Fits p (put t r u)
put_fits p e r t u s fits h =
    let less : levels (put t r u) ≤ 33 - length p = levels_le (put t r u) (33 - length p) (λ q l f.
    at q l (strip r q) refl (sym (leaf_at-put t r u q) ∙ f)) in
    omega arith
  where
    at : (q : Path) (l : LeafValue) (o : Option Path) → strip r q ≡ o
        → after_put o (leaf_at u) (not (is_null u) && is_some (strip q r)) (leaf_at t q) ≡ Some l
        → length q < 33 - length p
    at q l None is f =
        let deep : length q < levels t = length_lt_levels t q l
        (shown (not (is_null u) && is_some (strip q r)) (leaf_at t q) l f) in
        omega arith
    at q l (Some x) is f =
        let deep : length x < levels u = length_lt_levels u x l f in
        omega (arith, length-strip r q x is, length-strip p e r s)

-- its children
children_fit : (p : Path) (t : PathTree) → Fits p t → Fits p (children_alone t)
children_fit p t h =
    let less : levels (children_alone t) ≤ levels t = levels_le (children_alone t) (levels t) at in
    omega arith
  where
    at : (q : Path) (l : LeafValue) → leaf_at (children_alone t) q ≡ Some l → length q < levels t
    at [] l e = cc (leaf_of-children_alone t)
    at (k ∷ q) l e = length_lt_levels t (k ∷ q) l (sym (leaf_at-children_alone t k q) ∙ e)

-- ---- what is there

region_part_fits : (rs : Regions) (p : Path) → length p ≤ MAX_LEVELS → All RegionFits rs
    → IfSome (region_part rs p) (Fits p)
region_part_fits [] p short h = tt
region_part_fits (r ∷ rs) p short h =
    elim (strip r.0 p) as (λ o. strip r.0 p ≡ o
    → IfSome (option_or (option_map (sub r.1) o) (region_part rs p)) (Fits p)) [
      | None ↦ λ e. region_part_fits rs p short (All-tail RegionFits r rs h)
      | Some rest ↦ λ e. part_fits r.0 p rest r.1 e short (All-head RegionFits r rs h)
    ] refl

window_fits : (ws : Windows) (q : Query) → All WindowFits ws
    → IfSome (window_of ws q) (λ w. Fits q.path w.children)
window_fits [] q h = tt
window_fits (w ∷ ws) q h =
    elim (eq_by_cmp query_cmp q w.0) as (λ b. eq_by_cmp query_cmp q w.0 ≡ b
    → IfSome (found b) (λ x. Fits q.path x.children)) [
      | true ↦ λ e. subst (λ (x : Query). Fits x.path (w.1).children)
          (sym (exact_queries q w.0 ((Equal-is (query_cmp q w.0)).0 e))) (All-head WindowFits w ws h)
      | false ↦ λ e. window_fits ws q (All-tail WindowFits w ws h)
    ] refl
  where
    found : Bool → Option Window
    found b = cond b (Some w.1) (window_of ws q)

-- what is brought for a query
pub base_fits : (b : Brought) (q : Query) → length q.path ≤ MAX_KEYS → AreFiltered b.windows → FitsLevels b
    → IfSome (base b q) (λ x. length q.path + levels x.tree ≤ MAX_LEVELS)
base_fits b q short filtered h =
    at (region_part b.regions q.path) refl (region_part_fits b.regions q.path (omega arith) h.regions)
  where
    window : (o : Option Window) → IfSome o (λ w. Fits q.path w.children)
        → IfSome (option_map of_window o) (λ x. Fits q.path x.tree)
    window None e = e
    window (Some w) e = e

    -- the source has the query's path
    of_source : (o : Option Query) → IfSome o (λ f. has_it b.windows q f ≡ true)
        → IfSome (option_and_then (window_of b.windows) o) (λ w. Fits q.path w.children)
    of_source None e = tt
    of_source (Some f) e =
        let there : is_some (window_of b.windows f) ≡ true = both_second (does_supply f q) _ e in
        let path : f.path ≡ q.path = supplied_has_path f q (found_all (λ x. is_filtered x ≡ true) f b.windows filtered there)
        (both_first (does_supply f q) _ e) in
        subst (λ p. IfSome (window_of b.windows f) (λ w. Fits p w.children)) path
        (window_fits b.windows f h.windows)

    at : (o : Option PathTree) → region_part b.regions q.path ≡ o → IfSome (region_part b.regions q.path) (Fits q.path)
        → IfSome (base b q) (λ x. Fits q.path x.tree)
    at (Some t) e r = subst (λ o. IfSome o (λ x. Fits q.path x.tree)) (sym (region_base b q t e))
        (subst (λ o. IfSome o (Fits q.path)) e r)
    at None e r = subst (λ o. IfSome o (λ x. Fits q.path x.tree)) (sym (window_base b q e))
        (window (option_and_then (window_of b.windows) (source_among b.windows b.registered q))
        (of_source (source_among b.windows b.registered q) (find_passes (has_it b.windows q) b.registered)))

-- ---- pushes

-- the base with one child alone is no deeper
pub base_child_fits : (b : Brought) (q : Query) (k : Key) → length q.path ≤ MAX_KEYS → AreFiltered b.windows → FitsLevels b
    → IfSome (base_child b q k) (λ x. length (q.path ++ k ∷ []) + levels x.tree ≤ MAX_LEVELS)
base_child_fits b q k short filtered h = at (base b q) (base_fits b q short filtered h)
  where
    at : (o : Option Base) → IfSome o (λ x. length q.path + levels x.tree ≤ MAX_LEVELS)
        → IfSome (option_map (child_base k) o) (λ x. length (q.path ++ k ∷ []) + levels x.tree ≤ MAX_LEVELS)
    at None f = f
    at (Some x) f =
        part_fits q.path (q.path ++ k ∷ []) (k ∷ []) x.tree (strip-append q.path (k ∷ []))
        (omega (arith, length-append q.path (k ∷ []), short)) f

region_put_fits : (a : Assignment) (r : Path × PathTree) → Fits a.0 a.1 → RegionFits r
    → RegionFits (region_put a r)
region_put_fits a r new h =
    elim (strip r.0 a.0) as (λ o. strip r.0 a.0 ≡ o
    → Fits r.0 (option_map_or (λ rest. put r.1 rest a.1) o r.1)) [
      | None ↦ λ e. h
      | Some rest ↦ λ e. put_fits r.0 a.0 rest r.1 a.1 e h new
    ] refl

pub push_fits : (q : Query) (b : Brought) (a : Assignment) → Fits a.0 a.1 → FitsLevels b
    → FitsLevels (push q b a)
push_fits q b a new h = record {
  regions =
      elim (is_filtered q) as (λ f. All RegionFits (cond f (option_map_or (λ rest.
      record b { windows = windows_pushed q rest a.1 b.windows }) (strip q.path a.0) b)
      (push_plain b a)).regions) [
        | true ↦ windowed (strip q.path a.0)
        | false ↦ pushed_all RegionFits b a new (λ r e. region_put_fits a r new e) h.regions
      ];
  windows = pushed_windows_all WindowFits q b a (λ rest e.
      own rest (window_of b.windows q) e (window_fits b.windows q h.windows)) h.windows;
}
  where
    windowed : (o : Option Path) → All RegionFits (option_map_or (λ rest.
        record b { windows = windows_pushed q rest a.1 b.windows }) o b).regions
    windowed None = h.regions
    windowed (Some rest) = h.regions

    own : (rest : Path) (o : Option Window) → strip q.path a.0 ≡ Some rest
        → IfSome o (λ w. Fits q.path w.children)
        → IfSome (window_pushed rest a.1 o) (λ w. Fits q.path w.children)
    own [] o e f =
        let same : length q.path ≤ length a.0 = omega (arith, length-strip q.path a.0 [] e) in
        let fits : Fits q.path a.1 = omega arith in
        children_fit q.path a.1 fits
    own (k ∷ rest) None e f = tt
    own (k ∷ rest) (Some w) e f = put_fits q.path a.0 (k ∷ rest) w.children a.1 e f new

-- ---- changes of cover

cut_fits : (r : Path × PathTree) (k : Query) → length k.path ≤ MAX_KEYS → RegionFits r
    → IfSome (part_for r k) RegionFits
cut_fits r k short h =
    elim (is_filtered k) as (λ f. IfSome (cond f None
    (option_map (λ rest. (k.path, sub r.1 rest)) (strip r.0 k.path))) RegionFits) [
      | true ↦ tt
      | false ↦ elim (strip r.0 k.path) as (λ o. strip r.0 k.path ≡ o
          → IfSome (option_map (λ rest. (k.path, sub r.1 rest)) o) RegionFits) [
            | None ↦ λ e. tt
            | Some rest ↦ λ e. part_fits r.0 k.path rest r.1 e (omega arith) h
          ] refl
    ]

pub recover_fits : (registered kept : List Query) (b : Brought) → AreShort registered → AreShort kept
    → AreFiltered b.windows → FitsLevels b → FitsLevels (recover registered kept b)
recover_fits registered kept b forms listens filtered h = record {
  regions =
      with_all RegionFits (filter (λ r. reaches kept r.0) b.regions) (flat_map (parts_of kept) lost)
      (All-filter (λ (r : Path × PathTree). reaches kept r.0) RegionFits b.regions h.regions)
      (All-flat_map RegionFits (parts_of kept) lost (All-weaker RegionFits
      (λ r. All RegionFits (parts_of kept r)) parts lost
      (All-filter (λ (r : Path × PathTree). not (reaches kept r.0)) RegionFits b.regions h.regions)));
  windows =
      listed_all WindowFits (handed_on b (heirs registered b left) ++ left.windows)
      (All-append WindowFits (handed_on b (heirs registered b left)) left.windows
      (handed_all WindowFits b (heirs registered b left) (λ q m.
      each q (All-contains (λ (x : Query). length x.path ≤ MAX_KEYS) registered q forms
      (heir_is registered b left q m).registered)))
      (All-filter (λ (w : Query × Window). is_among registered w.0) WindowFits b.windows h.windows));
}
  where
    lost : Regions
    lost = filter (λ r. not (reaches kept r.0)) b.regions

    parts : (r : Path × PathTree) → RegionFits r → All RegionFits (parts_of kept r)
    parts r e = All-filter_map RegionFits (part_for r) kept
        (All-weaker (λ (k : Query). length k.path ≤ MAX_KEYS) (λ k. IfSome (part_for r k) RegionFits)
        (λ k short. cut_fits r k short e) kept listens)

    left : Brought
    left = cut registered kept b

    each : (q : Query) → length q.path ≤ MAX_KEYS
        → IfSome (window_left (base b q)) (λ w. WindowFits (q, w))
    each q short = at (base b q) (base_fits b q short filtered h)
      where
        at : (o : Option Base) → IfSome o (λ x. Fits q.path x.tree) → IfSome (window_left o) (λ w. WindowFits (q, w))
        at None f = tt
        at (Some x) f = children_fit q.path x.tree f

-- ---- what is held

-- after a push, or a refusal of it
pub filtered_fits : {A E : Type 0} (r : Result A E) (fs : List Query) (rs : List Region) (ws xs : List inside.Window)
    (q : Query) (a : Assignment) → is_filtered q ≡ true → Fits a.0 a.1
    → OnOk r (in_query_order (entries_of xs) ≡ pushed_windows q a (in_query_order (entries_of ws)))
    → OnErr r (in_query_order (entries_of xs) ≡ in_query_order (entries_of ws))
    → FitsLevels (held fs rs ws) → FitsLevels (held fs rs xs)
filtered_fits (Ok x) fs rs ws xs q a f new ok err h =
    let pushed : held fs rs xs ≡ push q (held fs rs ws) a =
    (λ i. record { registered = fs; regions = pairs_of rs; windows = ok i }) ∙ push_of_filtered q (held fs rs ws) a f in
    subst FitsLevels (sym pushed) (push_fits q (held fs rs ws) a new h)
filtered_fits (Err e) fs rs ws xs q a f new ok err h =
    subst (λ es. FitsLevels (record { registered = fs; regions = pairs_of rs; windows = es })) (sym err) h

pub plain_fits : {A E : Type 0} (r : Result A E) (new old : Brought) (q : Query) (a : Assignment)
    → is_filtered q ≡ false → Fits a.0 a.1 → OnOk r (new ≡ push_plain old a) → OnErr r (new ≡ old)
    → FitsLevels old → FitsLevels new
plain_fits (Ok x) new old q a f fits ok err h =
    subst FitsLevels (sym (ok ∙ push_of_plain q old a f)) (push_fits q old a fits h)
plain_fits (Err e) new old q a f fits ok err h = subst FitsLevels (sym err) h

-- after a change of cover, or a refusal of it
pub changed_fits : {A E : Type 0} (r : Result A E) (registered kept : List Query) (old new : Brought)
    → OnOk r (new ≡ recover registered kept old) → OnOk r (AreShort registered)
    → OnOk r (AreShort kept) → OnErr r (new ≡ old) → AreFiltered old.windows → FitsLevels old → FitsLevels new
changed_fits (Ok x) registered kept old new ok forms listens err filtered h =
    subst FitsLevels (sym ok) (recover_fits registered kept old forms listens filtered h)
changed_fits (Err e) registered kept old new ok forms listens err filtered h = subst FitsLevels (sym err) h
