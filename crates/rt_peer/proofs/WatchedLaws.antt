-- Views of filtered queries, and what they tell of a write.
use Rattle.std.proofs.Common.{◌≡◌, ◌≤◌, true, false, List, [], ◌∷◌, ◌++◌, length-append, Some, None, refl, sym, ap, subst, ◌∙◌, arith, if◌then◌else◌}
use Rattle.std.specs.List.{list_any}
use Rattle.rt_tree.specs.PathTree.{Key, Path, PathTree, leaf_at-sub, levels, levels_le, sub}
use Rattle.rt_tree.specs.Trees.{IsAllowed, tree_eq}
use Rattle.rt_tree.specs.TreeEq.{tree_eq_tells}
use Rattle.rt_tree.specs.Assignments.{Assignment, is_at_or_above}
use Rattle.rt_query.specs.Queries.{Query, is_filtered}
use Rattle.rt_query.specs.QueryEq.{shown_eq}
use Rattle.rt_query.specs.Select.{select, tree_of}
use Rattle.rt_query.specs.laws.QueryEq.{shown_eq_tells}
use Rattle.rt_view.specs.declared.change.Change.TheVariants.{Value}
use Rattle.rt_view.specs.Changes.{row_changes}
use Rattle.rt_view.specs.Views.{View, renewed, shown_of, stays_object, told, touched, with_named}
use Rattle.rt_peer.specs.Pushes.{seen, written}
use Rattle.rt_peer.specs.declared.views.Watched.{Watched}
use Rattle.rt_peer.specs.inside.Looked.{told_of}
use Rattle.rt_peer.specs.inside.Standing.{leaves_part}
use Rattle.rt_peer.specs.inside.Watched.{children_at, named_keys, IsOf, IsViewOf}
use Rattle.rt_peer.proofs.LookedLaws.{part_so, told_none}
use Rattle.rt_peer.proofs.StandingLaws.{seen_so}
use Rattle.rt_peer.proofs.TouchLaws.{touch_is_enough}

-- a child of a tree that may be held stands above 31 keys at most
pub child_fits : (t : PathTree) (p : Path) (k : Key) → IsAllowed t → levels (sub (sub t p) (k ∷ [])) ≤ 32
child_fits t p k allowed =
    levels_le (sub (sub t p) (k ∷ [])) 32 (λ q l f.
    let there = sym (leaf_at-sub t p (k ∷ q)) ∙ sym (leaf_at-sub (sub t p) (k ∷ []) q) ∙ f in
    let short = (allowed (p ++ k ∷ q) l there).0.short in
    omega (arith, short, length-append p (k ∷ q)))

-- ---- what a view shows

pub seen_of : (t : PathTree) (q : Query) (v : View) → is_filtered q ≡ true → IsViewOf t q v
    → tree_of (shown_of v) ≡ seen q t
seen_of t q v filtered h =
    (λ i. tree_of (select (h.query i) (h.tree i)))
    ∙ sym (ap (λ b. if b then tree_of (select q (sub t q.path)) else sub t q.path) filtered)

none_behind : {X : Type 0} (xs ys : List X) → xs ++ ys ≡ [] → ys ≡ []
none_behind [] ys e = e
none_behind (x ∷ xs) ys e = cc

-- where nothing is told, the same is shown
pub quiet : (v w : View) → told v w ≡ [] → shown_of v ≡ shown_of w
quiet v w e =
    elim (shown_eq (shown_of v) (shown_of w)) as (λ b. shown_eq (shown_of v) (shown_of w) ≡ b
    → (if b then [] else Value (tree_of (shown_of w)) ∷ []) ≡ [] → shown_of v ≡ shown_of w) [
      | true ↦ λ f g. (shown_eq_tells (shown_of v) (shown_of w)).0 f
      | false ↦ λ f g. cc
    ] refl (none_behind (row_changes v.query.index (shown_of v).rows (shown_of w).rows) _ e)

-- ---- what is told

pub told_some : (t u : PathTree) (q : Query) (old new : PathTree) → old ≡ seen q t → new ≡ seen q u
    → tree_eq old new ≡ false → Some new ≡ told_of t u q
told_some t u q old new before after e =
    ap Some after
    ∙ sym (ap (λ b. if b then None else Some (seen q u)) ((λ i. tree_eq (sym before i) (sym after i)) ∙ e))

-- ---- a view after a write

-- a view of one tree is one of each other with the same part
pub of_same : (t u : PathTree) (q : Query) (w : Watched) → sub u q.path ≡ sub t q.path → IsOf t q w → IsOf u q w
of_same t u q w same h = record {
  filtered = h.filtered;
  view = record { query = h.view.query; tree = h.view.tree ∙ sym same; works = h.view.works };
  shown = h.shown ∙ seen_so q t u (sym same);
}

pub still_of : (t u : PathTree) (es : List Assignment) (q : Query) (w : Watched) → sub u q.path ≡ sub (written t es) q.path
    → leaves_part t q.path es ≡ true → IsOf t q w → IsOf u q w
still_of t u es q w made e h = of_same t u q w (part_so t u es q made e) h

module _ (t u : PathTree) (q : Query) (old : Watched) (view : View) (h : IsOf t q old) (now : IsViewOf u q view) where
  same_of : shown_of old.view ≡ shown_of view → seen q t ≡ seen q u
  same_of e =
      sym (seen_of t q old.view h.filtered h.view) ∙ ap tree_of e ∙ seen_of u q view h.filtered now

  -- nothing is told
  pub quiet_of : (w : Watched) → w.view ≡ view → w.shown ≡ old.shown → told old.view view ≡ [] → IsOf u q w
  quiet_of w same shown e = record {
    filtered = h.filtered;
    view = subst (IsViewOf u q) (sym same) now;
    shown = shown ∙ h.shown ∙ same_of (quiet old.view view e);
  }

  pub quiet_none : told old.view view ≡ [] → None ≡ told_of t u q
  quiet_none e = told_none t u q (same_of (quiet old.view view e))

  -- what is shown now
  pub now_shown : (shown : PathTree) → shown ≡ tree_of (shown_of view) → shown ≡ seen q u
  now_shown shown is = is ∙ seen_of u q view h.filtered now

  pub equal_seen : (shown : PathTree) → shown ≡ tree_of (shown_of view) → tree_eq old.shown shown ≡ true
      → seen q t ≡ seen q u
  equal_seen shown is e = sym h.shown ∙ (tree_eq_tells old.shown shown).0 e ∙ now_shown shown is

  pub other_told : (shown : PathTree) → shown ≡ tree_of (shown_of view) → tree_eq old.shown shown ≡ false
      → Some shown ≡ told_of t u q
  other_told shown is e = told_some t u q old.shown shown h.shown (now_shown shown is) e

  pub shown_so : (w : Watched) → w.view ≡ view → w.shown ≡ seen q u → IsOf u q w
  shown_so w same shown = record { filtered = h.filtered; view = subst (IsViewOf u q) (sym same) now; shown = shown }

-- ---- a view takes a write

pub touched_of : (t u : PathTree) (es : List Assignment) (q : Query) (v w : View) (named : List (Key × PathTree))
    → sub u q.path ≡ sub (written t es) q.path → IsViewOf t q v → list_any (λ a. is_at_or_above a.0 q.path) es ≡ false
    → named ≡ children_at (sub u q.path) (named_keys q.path es) → stays_object v.tree named ≡ true
    → w ≡ touched v named → IsViewOf u q w
touched_of t u es q v w named made h up is stays turned =
    let from : named ≡ children_at (sub (written t es) q.path) (named_keys q.path es) =
    is ∙ ap (λ x. children_at x (named_keys q.path es)) made in
    let touch = touch_is_enough t q.path es up
    ((λ i. stays_object (sym h.tree i) (sym from i)) ∙ stays) in
    record {
      query = ap (λ (x : View). x.query) turned ∙ h.query;
      tree = ap (λ (x : View). x.tree) turned ∙ (λ i. with_named (h.tree i) (from i)) ∙ touch
          ∙ sym made;
      works = ap (λ (x : View). x.failed) turned;
    }

pub renewed_of : (t u : PathTree) (q : Query) (v w : View) (part : PathTree) → IsViewOf t q v → part ≡ sub u q.path
    → w ≡ renewed v part → IsViewOf u q w
renewed_of t u q v w part h is turned = record {
  query = ap (λ (x : View). x.query) turned ∙ h.query;
  tree = ap (λ (x : View). x.tree) turned ∙ is;
  works = ap (λ (x : View). x.failed) turned;
}
