-- A step changes of what a listener sees what its entries name.
use Rattle.std.proofs.Common.{◌≡◌, ℕ, Bool, true, false, cond, not, ◌&&◌, ◌||◌, ◌⊎◌, inl, inr, List, [], ◌∷◌, ◌++◌, length, ◌≤◌, arith, refl, sym, ap, subst, ◌∙◌, append-nil, append_assoc, Option, Some, None, is_some}
use mathlib.Core.Bool.{true≢false}
use Rattle.std.specs.List.{filter, filter_map, cons_option, flat_map, fold, list_any, Contains}
use Rattle.std.specs.Option.{option_and_then, option_map_or}
use Rattle.std.proofs.lemmas.List.Folds.{list_any-append}
use Rattle.rt_tree.specs.PathTree.{Key, Path, PathTree, of_leaf, leaf_at-null, leaf_at-of_leaf, put, key_eq, key_eq-is, key_eq-symm, first_key, leaf_at, leaf_at-sub, leaf_at-put, same_tree, null, is_null, is_null-null, leaf_of, leaf_of_root, strip, strip-some, strip-append, strip-both, child, with_children}
use Rattle.rt_tree.specs.Leaf.{LeafValue}
use Rattle.rt_tree.specs.Parts.{sub_root, child-put, child-put_other}
use Rattle.rt_tree.specs.Children.{children_of}
use Rattle.rt_tree.specs.Assignments.{Assignment, is_at_or_above, do_overlap}
use Rattle.rt_query.specs.Queries.{Query, is_filtered}
use Rattle.rt_query.specs.Select.{select}
use Rattle.rt_query.specs.Supply.{form}
use Rattle.rt_writes.specs.Writes.{Write, overlay}
use Rattle.rt_cache.specs.Brought.{Brought, source, base, push}
use Rattle.rt_cache.specs.Canonical.{IsCanonical, Belongs}
use Rattle.rt_cache.specs.Recover.{is_moved}
use Rattle.rt_cache.proofs.Changing.{is_brought}
use Rattle.rt_cache.proofs.FilteredRuns.{calls_hold}
use Rattle.rt_cache.proofs.Moves.{unmoved_same}
use Rattle.rt_cache.specs.declared.brought.Base.{Base}
use Rattle.rt_cover.specs.Cover.{distinct}
use Rattle.rt_view.specs.Views.{with_named}
use Rattle.rt_wire.specs.declared.request.Asked.{Asked}
use Rattle.rt_world.specs.declared.error.CoreError.{CoreError}
use Rattle.rt_world.specs.declared.step.Step.{Step}
use Rattle.rt_world.specs.Views.{is_known, base_tree, is_base_whole, is_child_known, seen_over, view_of}
use Rattle.rt_world.specs.World.{Reason, World, Listener, pending, listen_of}
use Rattle.rt_world.specs.steps.Kind.{Part}
use Rattle.rt_world.specs.steps.Pushing.{push_of}
use Rattle.rt_world.specs.After.{kind, requests_after, forms_after, part_pushed, pushed, brought_after, listeners_after}
use Rattle.rt_world.specs.Messages.{next}
use Rattle.rt_world.specs.Refusals.{refusal, is_stale}
use Rattle.rt_world.specs.Answers.{step, step_by}
use Rattle.rt_world.specs.Touched.{entries_settled, entries_asked, entries_pushed, entries_by, named_by, children_named, is_named, is_covered, seen, children_at, IsInBoth}
use Rattle.rt_world.specs.Called.{IsCalled}
use Rattle.rt_world.specs.Reached.{IsReached}
use Rattle.rt_world.specs.Sound.{IsSound}
use Rattle.rt_world.specs.laws.Holds.{IsSteady}
use Rattle.rt_world.specs.laws.Steps.{UnmetStays}
use Rattle.rt_world.specs.laws.World.{changes_listeners, OnlyNamedChange, LeafNamesAll, LeafReadsNamed, TouchedIsSeen, OthersKeepViews}
use Rattle.rt_world.proofs.CalledLaws.{called_pushed}
use Rattle.rt_world.proofs.CountLaws.{no_more_children}
use Rattle.rt_world.proofs.KindLaws.{orderly}
use Rattle.rt_world.proofs.Listeners.{or_false_left, or_false_right}
use Rattle.rt_world.proofs.Reaching.{form_stays}
use Rattle.rt_world.proofs.PushLaws.{AreApart, apart_of, apart_below, AlikeAt, alike_same, alike_trans, pushes_alike, pushes_source, pushes_canonical}
use Rattle.rt_world.proofs.ReachedLaws.{canonical, push_is_brought}
use Rattle.rt_world.proofs.StayLaws.{LooksSame, alike, child_by, child_seen, same_select, recover_same, cover_alone, renewed_same, same_world, has_stayed}
use Rattle.rt_world.proofs.TouchingLaws.{misses, SameAt, writes_same}

-- ---- keys, each once

-- of keys each once there are the same
any_once : (k : Key) (keys : List Key) → list_any (key_eq k) (distinct key_eq keys) ≡ list_any (key_eq k) keys
any_once k [] = refl
any_once k (j ∷ keys) =
    elim (key_eq k j) as (λ b. key_eq k j ≡ b → (b || list_any (key_eq k) (filter (λ x. not (key_eq j x)) (distinct key_eq keys))) ≡ (b || list_any (key_eq k) keys)) [
      | true ↦ λ e. refl
      | false ↦ λ e. left e (distinct key_eq keys) ∙ any_once k keys
    ] refl
  where
    left : key_eq k j ≡ false → (xs : List Key) → list_any (key_eq k) (filter (λ x. not (key_eq j x)) xs) ≡ list_any (key_eq k) xs
    left e [] = refl
    left e (x ∷ xs) =
        elim (key_eq j x) as (λ b. key_eq j x ≡ b → list_any (key_eq k) (cond (not b) (x ∷ filter (λ y. not (key_eq j y)) xs) (filter (λ y. not (key_eq j y)) xs)) ≡ (key_eq k x || list_any (key_eq k) xs)) [
          | true ↦ λ f.
              let other : key_eq k x ≡ false = ap (key_eq k) (sym (key_eq-is j x f)) ∙ e in
              left e xs ∙ ap (λ b. b || list_any (key_eq k) xs) (sym other)
          | false ↦ λ f. ap (λ b. key_eq k x || b) (left e xs)
        ] refl

-- ---- entries that miss a path

apart_test : (p q : Path) → AreApart p q → do_overlap p q ≡ false
apart_test p q h = λ i. is_some (h.down i) || is_some (h.up i)

-- what misses a path misses what is under it
pub misses_below : (p d : Path) (entries : List Assignment) → misses p entries → misses (p ++ d) entries
misses_below p d [] h = refl
misses_below p d (a ∷ entries) h =
    λ i. apart_test a.0 (p ++ d) (apart_below a.0 p d (apart_of a.0 p (or_false_left (do_overlap a.0 p) (list_any (λ (x : Assignment). do_overlap x.0 p) entries) h))) i
    || misses_below p d entries (or_false_right (do_overlap a.0 p) _ h) i

-- an entry that is neither above a path nor names its child k misses that child
unnamed : (p : Path) (k : Key) (a : Assignment) → is_at_or_above a.0 p ≡ false → (o : Option Path) → strip p a.0 ≡ o → option_map_or (key_eq k) (option_and_then first_key o) false ≡ false
    → AreApart a.0 (p ++ k ∷ [])
unnamed p k a low None e f = apart_below a.0 p (k ∷ []) (record { down = none (strip a.0 p) low; up = e })
  where
    none : (o : Option Path) → is_some o ≡ false → o ≡ None
    none None g = refl
    none (Some x) g = absurd (true≢false g)
unnamed p k a low (Some []) e f =
    let same : a.0 ≡ p = strip-some p a.0 [] e ∙ append-nil p in
    absurd (true≢false (sym (ap is_some (ap (strip p) (sym (append-nil p)) ∙ strip-append p [])) ∙ ap (λ z. is_at_or_above z p) (sym same) ∙ low))
unnamed p k a low (Some (j ∷ r)) e f =
    let there : a.0 ≡ p ++ j ∷ r = strip-some p a.0 (j ∷ r) e in
    subst (λ z. AreApart z (p ++ k ∷ [])) (sym there) (record {
      down = strip-both p (j ∷ r) (k ∷ []) ∙ ap (λ b. cond b (strip r []) None) (key_eq-symm j k ∙ f);
      up = strip-both p (k ∷ []) (j ∷ r) ∙ ap (λ b. cond b (Some r) None) f;
    })

-- whether one of the entries names the child, of the names as they come
abbrev names : Path → List Assignment → Key → Bool
names p entries k = list_any (key_eq k) (filter_map (named_by p) entries)

misses_named : (p : Path) (k : Key) (entries : List Assignment) → is_covered p entries ≡ false → names p entries k ≡ false → misses (p ++ k ∷ []) entries
misses_named p k [] c n = refl
misses_named p k (a ∷ entries) c n =
    let both = both_parts (named_by p a) n in
    λ i. apart_test a.0 (p ++ k ∷ []) (unnamed p k a (or_false_left (is_at_or_above a.0 p) (is_covered p entries) c) (strip p a.0) refl both.0) i
    || misses_named p k entries (or_false_right (is_at_or_above a.0 p) _ c) both.1 i
  where
    both_parts : (o : Option Key) → list_any (key_eq k) (cons_option o (filter_map (named_by p) entries)) ≡ false → (option_map_or (key_eq k) o false ≡ false) × (names p entries k ≡ false)
    both_parts None h = (refl, h)
    both_parts (Some j) h = (or_false_left (key_eq k j) _ h, or_false_right (key_eq k j) _ h)

pub misses_unnamed : (p : Path) (k : Key) (entries : List Assignment) → is_covered p entries ≡ false → is_named p entries k ≡ false → misses (p ++ k ∷ []) entries
misses_unnamed p k entries c n = misses_named p k entries c (sym (any_once k (filter_map (named_by p) entries)) ∙ n)

-- ---- a child that is seen

child_alike : (q : Query) (k : Key) (new old : Option Base) (ws vs : List Write) → AlikeAt (k ∷ []) new old → SameAt (q.path ++ k ∷ []) ws vs → child (seen_over new ws q) k ≡ child (seen_over old vs q) k
child_alike q k new old ws vs h g =
    let c = q.path ++ k ∷ [] in
    let t = child (base_tree old) k in
    child_seen q new ws k
    ∙ (λ i. child_by (is_filtered q && not (h.full i)) (h.part i) c ws)
    ∙ (λ i. cond (is_filtered q && not (is_base_whole old)) (cond (not (is_null t) || g.whole i) (g.overlaid t i) null) (g.overlaid t i))
    ∙ sym (child_seen q old vs k)

-- ---- a step

-- what parts leave of the base, and of the source
record LeavesOf (w : World) (d : Path) (q : Query) (c b : Brought) : Type 0 where
  alike : AlikeAt d (base c q) (base b q)
  same : source c q ≡ source b q

parts_leave : (w : World) (parts : List Part) (b : Brought) (q : Query) (d : Path) → IsCanonical b → misses (q.path ++ d) (flat_map (λ (p : Part). p.1) parts)
    → LeavesOf w d q (fold (part_pushed w) b parts) b
parts_leave w [] b q d c h = record { alike = alike_same d _ _ refl; same = refl }
parts_leave w (p ∷ parts) b q d c h =
    let split = sym (list_any-append (λ (a : Assignment). do_overlap a.0 (q.path ++ d)) p.1 (flat_map (λ (p : Part). p.1) parts)) ∙ h in
    let here = or_false_left (list_any (λ (a : Assignment). do_overlap a.0 (q.path ++ d)) p.1) (list_any (λ (a : Assignment). do_overlap a.0 (q.path ++ d)) (flat_map (λ (p : Part). p.1) parts)) split in
    let rest = parts_leave w parts (part_pushed w b p) q d (kept (listen_of w p.0)) (or_false_right (list_any (λ (a : Assignment). do_overlap a.0 (q.path ++ d)) p.1) _ split) in
    record {
      alike = alike_trans d (base (fold (part_pushed w) (part_pushed w b p) parts) q) (base (part_pushed w b p) q) (base b q) rest.alike (one (listen_of w p.0) here);
      same = rest.same ∙ source_one (listen_of w p.0) here;
    }
  where
    pushed_by : Option Query → Brought
    pushed_by o = option_map_or (λ f. fold (push f) b p.1) o b

    kept : (o : Option Query) → IsCanonical (pushed_by o)
    kept None = c
    kept (Some f) = pushes_canonical f p.1 b c

    one : (o : Option Query) → misses (q.path ++ d) p.1 → AlikeAt d (base (pushed_by o) q) (base b q)
    one None m = alike_same d _ _ refl
    one (Some f) m = pushes_alike f q d p.1 b c m

    source_one : (o : Option Query) → misses (q.path ++ d) p.1 → source (pushed_by o) q ≡ source b q
    source_one None m = refl
    source_one (Some f) m = pushes_source f q d p.1 b c m

-- all entries, part by part
entries_flat : (xs : List Assignment) (parts : List Part) → fold (λ (entries : List Assignment) (p : Part). entries ++ p.1) xs parts ≡ xs ++ flat_map (λ (p : Part). p.1) parts
entries_flat xs [] = sym (append-nil xs)
entries_flat xs (p ∷ parts) = entries_flat (xs ++ p.1) parts ∙ append_assoc xs p.1 (flat_map (λ (r : Part). r.1) parts)

leaves_same : (w : World) (d : Path) (q : Query) (b : Brought) → LeavesOf w d q b b
leaves_same w d q b = record { alike = alike_same d _ _ refl; same = refl }

pushed_leaves : (w : World) (s : Step) (q : Query) (d : Path) → IsCanonical w.brought → misses (q.path ++ d) (entries_by w s) → LeavesOf w d q (pushed w s) w.brought
pushed_leaves w s q d c h = at (orderly s).parts
  where
    entries : kind s ≡ push_of (kind s).parts → entries_by w s ≡ flat_map (λ (p : Part). p.1) (kind s).parts
    entries e =
        (λ i. option_map_or (λ (x : ℕ × Option Reason). entries_settled w x.0) (e i).settled (option_map_or (λ (a : ℕ × Asked). entries_asked a.1) (e i).asked (entries_pushed (e i).parts)))
        ∙ entries_flat [] (kind s).parts

    at : (kind s).parts ≡ [] ⊎ kind s ≡ push_of (kind s).parts → LeavesOf w d q (pushed w s) w.brought
    at (inl e) = subst (λ (ps : List Part). LeavesOf w d q (fold (part_pushed w) w.brought ps) w.brought) (sym e) (leaves_same w d q w.brought)
    at (inr e) = parts_leave w (kind s).parts w.brought q d c (subst (misses (q.path ++ d)) (entries e) h)

-- a step that registers and ends no listener moves none whose path its entries miss
pub still_unmoved : (w : World) (s : Step) (q : Query) → IsSound w → IsCalled w.brought → IsReached w → refusal w s ≡ None → changes_listeners s ≡ false
    → misses q.path (entries_by w s) → is_moved w.brought (brought_after w s) q ≡ false
still_unmoved w s q sound called reached free still h =
    let x = calls_hold called.calls called.allowed in
    let c = subst IsCanonical called.left x.0 in
    let same = (pushed_leaves w s q [] c (subst (λ p. misses p (entries_by w s)) (sym (append-nil q.path)) h)).same in
    unmoved_same w.brought (brought_after w s) q (is_brought w.brought c (subst Belongs called.left x.1)) (ap (λ (b : Brought). source b q) (push_is_brought w s sound called reached free still) ∙ same)

-- a step that is not refused, and a query whose form is registered after it
module _ (w : World) (s : Step) (q : Query) (sound : IsSound w) (called : IsCalled w.brought) (reached : IsReached w) (free : refusal w s ≡ None) (m : Contains (forms_after w s) (form q))
    (unmoved : is_moved w.brought (brought_after w s) q ≡ false) where
  abbrev ws : List Write
  ws = pending (requests_after w s)

  abbrev new : Option Base
  new = base (pushed w s) q

  abbrev old : Option Base
  old = base w.brought q

  -- what is left of what is brought looks as it did before the change of cover
  looks : LooksSame ws q (base (brought_after w s) q) new
  looks = at (changes_listeners s) refl
    where
      at : (c : Bool) → changes_listeners s ≡ c → LooksSame ws q (base (brought_after w s) q) new
      at false e = alike ws q (base (brought_after w s) q) new (ap (λ (b : Brought). base b q) (push_is_brought w s sound called reached free e))
      at true e =
          let taken : pushed w s ≡ w.brought = (cover_alone w s e).taken in
          recover_same w s q sound m ws (pushed w s) (called_pushed w sound reached s called free) (ap (λ b. is_moved b (brought_after w s) q) taken ∙ unmoved)

  pub child_next : (k : Key) → misses (q.path ++ k ∷ []) (entries_by w s) → child (seen (next w s) q) k ≡ child (seen w q) k
  child_next k h =
      looks.children k
      ∙ child_alike q k new old ws (pending w.requests) (pushed_leaves w s q (k ∷ []) (canonical w.brought called) h).alike (writes_same w s (q.path ++ k ∷ []) sound h)

  -- a path that all entries miss
  module _ (h : misses q.path (entries_by w s)) where
    at_root : AlikeAt [] new old
    at_root = (pushed_leaves w s q [] (canonical w.brought called) (subst (λ p. misses p (entries_by w s)) (sym (append-nil q.path)) h)).alike

    pub known_next : is_known (brought_after w s) ws q ≡ is_known w.brought (pending w.requests) q
    known_next = λ i. (looks.known ∙ at_root.there) i || (writes_same w s q.path sound h).whole i

    over : (o : Option Base) (vs : List Write) → is_filtered q ≡ false → seen_over o vs q ≡ overlay q.path (base_tree o) vs
    over o vs e = ap (λ b. cond (b && not (is_base_whole o)) (with_children (is_child_known (base_tree o) vs q.path) (overlay q.path (base_tree o) vs)) (overlay q.path (base_tree o) vs)) e

    view_by_form : (b : Bool) → is_filtered q ≡ b → view_of (brought_after w s) ws q ≡ view_of w.brought (pending w.requests) q
    view_by_form true e = same_select q (seen (next w s) q) (seen w q) e (λ k. child_next k (misses_below q.path (k ∷ []) (entries_by w s) h))
    view_by_form false e =
        let tree : base_tree new ≡ base_tree old = sym (sub_root (base_tree new)) ∙ at_root.part ∙ sub_root (base_tree old) in
        ap (select q) (
        ap (λ o. seen_over o ws q) (looks.unfiltered e)
        ∙ over new ws e
        ∙ ap (λ t. overlay q.path t ws) tree
        ∙ (writes_same w s q.path sound h).overlaid (base_tree old)
        ∙ sym (over old (pending w.requests) e))

    pub view_next : view_of (brought_after w s) ws q ≡ view_of w.brought (pending w.requests) q
    view_next = view_by_form (is_filtered q) refl

-- ---- after a step

child_by_step : (w : World) (s : Step) (o : Option CoreError) (b : Bool) → refusal w s ≡ o → IsSteady w → (l m : Listener) → IsInBoth w (step_by o b w s).0 l m
    → is_covered l.query.path (entries_by w s) ≡ false → is_moved w.brought (step_by o b w s).0.brought l.query ≡ false
    → (k : Key) → is_named l.query.path (entries_by w s) k ≡ false → child (seen (step_by o b w s).0 l.query) k ≡ child (seen w l.query) k
child_by_step w s (Some e) b f h l m both c unmoved k u = refl
child_by_step w s None true f h l m both c unmoved k u = refl
child_by_step w s None false f h l m both c unmoved k u =
    let x = has_stayed w s h.sound l m both in
    child_next w s l.query h.sound h.called h.reached f (form_stays (listeners_after w s) l x.stayed) unmoved k (misses_unnamed l.query.path k (entries_by w s) c u)

pub only_named_change : OnlyNamedChange
only_named_change w s h = child_by_step w s (refusal w s) (is_stale w s) refl h

-- a leaf has no children
pub under_leaf : (t : PathTree) (k : Key) → is_some (leaf_of t) ≡ true → child t k ≡ null
under_leaf t k e = at (leaf_of t) refl
  where
    below : (l : LeafValue) → child (of_leaf l) k ≡ null
    below l = same_tree (child (of_leaf l) k) null (λ q. leaf_at-sub (of_leaf l) (k ∷ []) q ∙ leaf_at-of_leaf l (k ∷ q) ∙ sym (leaf_at-null q))

    at : (o : Option LeafValue) → leaf_of t ≡ o → child t k ≡ null
    at None f = absurd (true≢false (sym e ∙ ap is_some f))
    at (Some l) f = ap (λ u. child u k) (leaf_of_root t l f) ∙ below l

pub leaf_names_all : LeafNamesAll
leaf_names_all w s h l m both c unmoved leaf k u =
    let same = only_named_change w s h l m both c unmoved k u in
    elim leaf [
      | inl old ↦ let gone = under_leaf (seen w l.query) k old in (gone, same ∙ gone)
      | inr new ↦ let gone = under_leaf (seen (step w s).0 l.query) k new in (sym same ∙ gone, gone)
    ]

-- so all children of the one that has some are named
pub leaf_reads_named : LeafReadsNamed
leaf_reads_named w s h l m both c unmoved leaf =
    let old = seen w l.query in
    let new = seen (step w s).0 l.query in
    let names = children_named l.query.path (entries_by w s) in
    let named = leaf_names_all w s h l m both c unmoved leaf in
    let earlier = no_more_children old names (λ k u. (named k u).0) in
    let later = no_more_children new names (λ k u. (named k u).1) in
    elim leaf [
      | inl here ↦ let none : length (children_of old) ≤ 0 = no_more_children old [] (λ k u. under_leaf old k here) in omega (arith, none, later)
      | inr here ↦ let none : length (children_of new) ≤ 0 = no_more_children new [] (λ k u. under_leaf new k here) in omega (arith, none, earlier)
    ]

-- ---- child by child

same_by_children : (t u : PathTree) → leaf_of t ≡ leaf_of u → ((k : Key) → child t k ≡ child u k) → t ≡ u
same_by_children t u e h = same_tree t u at
  where
    at : (q : Path) → leaf_at t q ≡ leaf_at u q
    at [] = e
    at (k ∷ q) = sym (leaf_at-sub t (k ∷ []) q) ∙ ap (λ x. leaf_at x q) (h k) ∙ leaf_at-sub u (k ∷ []) q

child_touched : (from t : PathTree) (keys : List Key) (k : Key) → child (with_named t (children_at from keys)) k ≡ cond (list_any (key_eq k) keys) (child from k) (child t k)
child_touched from t [] k = refl
child_touched from t (j ∷ keys) k =
    child_touched from (put t (j ∷ []) (child from j)) keys k
    ∙ elim (key_eq k j) as (λ b. key_eq k j ≡ b → cond (list_any (key_eq k) keys) (child from k) (child (put t (j ∷ []) (child from j)) k) ≡ cond (b || list_any (key_eq k) keys) (child from k) (child t k)) [
      | true ↦ λ e.
          let same : k ≡ j = key_eq-is k j e in
          ap (cond (list_any (key_eq k) keys) (child from k)) (ap (λ z. child (put t (j ∷ []) (child from j)) z) same ∙ child-put t j (child from j) ∙ ap (child from) (sym same))
          ∙ either (list_any (key_eq k) keys) (child from k)
      | false ↦ λ e. ap (cond (list_any (key_eq k) keys) (child from k)) (child-put_other t j k (child from j) (key_eq-symm j k ∙ e))
    ] refl
  where
    either : (b : Bool) (x : PathTree) → cond b x x ≡ x
    either true x = refl
    either false x = refl

-- no leaf
abbrev no_leaf : Option LeafValue
no_leaf = None

leaf_put : (from t : PathTree) (j : Key) → leaf_of t ≡ leaf_of from → leaf_of (put t (j ∷ []) (child from j)) ≡ leaf_of from
leaf_put from t j e = leaf_at-put t (j ∷ []) (child from j) [] ∙ at (leaf_of from) refl
  where
    gone : (b : Bool) → cond b no_leaf None ≡ None
    gone true = refl
    gone false = refl

    at : (o : Option LeafValue) → leaf_of from ≡ o → cond (not (is_null (child from j)) && true) None (leaf_of t) ≡ leaf_of from
    at None f = ap (λ o. cond (not (is_null (child from j)) && true) None o) (e ∙ f) ∙ gone (not (is_null (child from j)) && true) ∙ sym f
    at (Some l) f = ap (λ u. cond (not (is_null u) && true) None (leaf_of t)) (under_leaf from j (ap is_some f)) ∙ ap (λ b. cond (not b && true) None (leaf_of t)) is_null-null ∙ e

leaf_touched : (from t : PathTree) (keys : List Key) → leaf_of t ≡ leaf_of from → leaf_of (with_named t (children_at from keys)) ≡ leaf_of from
leaf_touched from t [] e = e
leaf_touched from t (j ∷ keys) e = leaf_touched from (put t (j ∷ []) (child from j)) keys (leaf_put from t j e)

-- a tree with the children of these keys taken from another is that one, where the leaf and all other children are alike
pub touched_same : (old new : PathTree) (keys : List Key) → leaf_of old ≡ leaf_of new → ((k : Key) → list_any (key_eq k) keys ≡ false → child new k ≡ child old k)
    → with_named old (children_at new keys) ≡ new
touched_same old new keys leaf same =
    same_by_children (with_named old (children_at new keys)) new (leaf_touched new old keys leaf) (λ k.
    child_touched new old keys k ∙ elim (list_any (key_eq k) keys) as (λ b. list_any (key_eq k) keys ≡ b → cond b (child new k) (child old k) ≡ child new k) [
      | true ↦ λ e. refl
      | false ↦ λ e. sym (same k e)
    ] refl)

pub touched_is_seen : TouchedIsSeen
touched_is_seen w s h l m both c unmoved leaf =
    touched_same (seen w l.query) (seen (step w s).0 l.query) (children_named l.query.path (entries_by w s)) leaf (only_named_change w s h l m both c unmoved)

-- ---- a listener elsewhere

view_by_step : (w : World) (s : Step) (o : Option CoreError) (b : Bool) → refusal w s ≡ o → IsSteady w → (l m : Listener) → IsInBoth w (step_by o b w s).0 l m
    → misses l.query.path (entries_by w s) → is_moved w.brought (step_by o b w s).0.brought l.query ≡ false → m ≡ l
view_by_step w s (Some e) b f h l m both u unmoved = same_world w h.sound l m both
view_by_step w s None true f h l m both u unmoved = same_world w h.sound l m both
view_by_step w s None false f h l m both u unmoved =
    let x = has_stayed w s h.sound l m both in
    let r = form_stays (listeners_after w s) l x.stayed in
    x.renewed ∙ renewed_same w (brought_after w s) (pending (requests_after w s)) l h.sound both.before
    (view_next w s l.query h.sound h.called h.reached f r unmoved u) (known_next w s l.query h.sound h.called h.reached f r unmoved u)

pub others_keep_views : OthersKeepViews
others_keep_views w s h = view_by_step w s (refusal w s) (is_stale w s) refl h

-- it is renewed to itself
pub unmet_stays : UnmetStays
unmet_stays w s h g reached f l old new u unmoved =
    let r = form_stays (listeners_after w s) l new in
    renewed_same w (brought_after w s) (pending (requests_after w s)) l h old (view_next w s l.query h g reached f r unmoved u) (known_next w s l.query h g reached f r unmoved u)
