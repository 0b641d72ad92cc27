-- Named children turn one tree into another one.
use Rattle.std.proofs.Common.{◌≡◌, ◌≤◌, ℕ, zero, suc, Bool, true, false, cond, not, ◌&&◌, List, [], ◌∷◌, ◌++◌, map, refl, sym, ap, subst, ◌∙◌, arith, Option, Some, None, is_some}
use Rattle.std.specs.List.{All, filter, slice_get}
use Rattle.std.specs.Prelude.{IfOk, OnOk}
use Rattle.std.specs.declared.result.Result.{Result}
use Rattle.std.specs.declared.result.Result.TheVariants.{Err, Ok}
use Rattle.std.proofs.lemmas.List.Elements.{All-append, All-cons, All-filter, All-nil}
use Rattle.rt_tree.specs.Allowed.{IsAllowed}
use Rattle.rt_tree.specs.PathTree.{Key, PathTree, key_eq, key_eq-is, key_eq-same, key_eq-symm, child, child_of, is_null, is_null-null, leaf_alone, leaf_at-sub, leaf_of, levels, levels-null, non_null, null, null_of_no_leaf, object, put}
use Rattle.rt_tree.specs.Children.{children_of, children_sorted, child_of-children_of, is_object}
use Rattle.rt_tree.specs.Leaf.{LeafValue}
use Rattle.rt_tree.specs.TreeEq.{tree_eq_tells}
use Rattle.rt_query.specs.declared.row.Row.{Row}
use Rattle.rt_query.specs.Queries.{Query, is_filtered}
use Rattle.rt_query.specs.Rows.{HasDistinctKeys, row_at}
use Rattle.rt_query.specs.Select.{as_children, row_of, rows_of, select, tree_by, tree_of}
use Rattle.rt_query.specs.laws.Select.{object-parts}
use Rattle.rt_view.specs.inside.Ranged.{OrderedChildren}
use Rattle.rt_view.specs.Views.{with_named}
use Rattle.rt_view.specs.inside.Differences.{come, differing, emptied, gone, is_come, is_gone, stays}
use Rattle.rt_view.specs.inside.ViewIndex.{IsWindowOf}
use Rattle.rt_view.specs.inside.Windows.{Entries, shown_in}
use Rattle.rt_view.proofs.CrossLaws.{shown_known}
use Rattle.rt_view.proofs.Listed.{EachOnce, each_once, listed-window}
use Rattle.rt_view.proofs.ReplayLaws.{row_at-cons}
use Rattle.rt_view.proofs.TouchLaws.{child_fits, child_of-put}
use Rattle.rt_view.proofs.TreeLaws.{filtered_leaf, leaf_of-put}

abbrev Children : Type 0
Children = List (Key × PathTree)

-- what stands at a key once the named children are put in, where this stood there
abbrev named_at : Children → Key → Option PathTree → Option PathTree
named_at [] k o = o
named_at (c ∷ cs) k o = named_at cs k (cond (key_eq c.0 k) (non_null c.1) o)

child_of-with_named : (t : PathTree) (cs : Children) (k : Key) → child_of (children_of (with_named t cs)) k ≡ named_at cs k (child_of (children_of t) k)
child_of-with_named t [] k = refl
child_of-with_named t (c ∷ cs) k = child_of-with_named (put t (c.0 ∷ []) c.1) cs k ∙ ap (named_at cs k) (child_of-put t c.0 k c.1)

leaf_of-with_named : (t : PathTree) (cs : Children) → leaf_of t ≡ None → leaf_of (with_named t cs) ≡ None
leaf_of-with_named t [] h = h
leaf_of-with_named t (c ∷ cs) h = leaf_of-with_named (put t (c.0 ∷ []) c.1) cs (leaf_of-put t c.0 c.1 h)

named_at-append : (cs ds : Children) (k : Key) (o : Option PathTree) → named_at (cs ++ ds) k o ≡ named_at ds k (named_at cs k o)
named_at-append [] ds k o = refl
named_at-append (c ∷ cs) ds k o = named_at-append cs ds k (cond (key_eq c.0 k) (non_null c.1) o)

no_null : non_null null ≡ None
no_null = ap (λ b. cond b None (Some null)) is_null-null

-- ---- children that are gone

-- a key that is still there is not named
gone_stays : (old new : Children) (k : Key) (o : Option PathTree) → is_some (child_of new k) ≡ true → named_at (gone old new) k o ≡ o
gone_stays [] new k o h = refl
gone_stays (c ∷ cs) new k o h =
    elim (is_some (child_of new c.0)) as (λ b. is_some (child_of new c.0) ≡ b → named_at (emptied (cond (not b) (c ∷ filter (is_gone new) cs) (filter (is_gone new) cs))) k o ≡ o) [
      | true ↦ λ e. gone_stays cs new k o h
      | false ↦ λ e. ap (λ b. named_at (gone cs new) k (cond b (non_null null) o)) (apart e) ∙ gone_stays cs new k o h
    ] refl
  where
    apart : is_some (child_of new c.0) ≡ false → key_eq c.0 k ≡ false
    apart e = elim (key_eq c.0 k) as (λ b. key_eq c.0 k ≡ b → b ≡ false) [
      | true ↦ λ s. cc (h, e, key_eq-is c.0 k s)
      | false ↦ λ s. refl
    ] refl

-- where nothing stands, nothing comes by those that are gone
gone_nothing : (old new : Children) (k : Key) → named_at (gone old new) k None ≡ None
gone_nothing [] new k = refl
gone_nothing (c ∷ cs) new k =
    elim (is_some (child_of new c.0)) as (λ b. named_at (emptied (cond (not b) (c ∷ filter (is_gone new) cs) (filter (is_gone new) cs))) k None ≡ None) [
      | true ↦ gone_nothing cs new k
      | false ↦ ap (named_at (gone cs new) k) (either_way (key_eq c.0 k)) ∙ gone_nothing cs new k
    ]
  where
    either_way : (b : Bool) → cond b (non_null null) None ≡ None
    either_way true = no_null
    either_way false = refl

-- a key that is gone is named null
gone_goes : (old new : Children) (k : Key) (v : PathTree) (o : Option PathTree) → is_some (child_of new k) ≡ false → child_of old k ≡ Some v → named_at (gone old new) k o ≡ None
gone_goes [] new k v o h there = cc
gone_goes (c ∷ cs) new k v o h there =
    elim (key_eq k c.0) as (λ b. key_eq k c.0 ≡ b → cond b (Some c.1) (child_of cs k) ≡ Some v → named_at (gone (c ∷ cs) new) k o ≡ None) [
      | true ↦ λ s g.
          let same : k ≡ c.0 = key_eq-is k c.0 s in
          let other : is_some (child_of new c.0) ≡ false = ap (λ (j : Key). is_some (child_of new j)) (sym same) ∙ h in
          ap (λ b. named_at (emptied (cond (not b) (c ∷ filter (is_gone new) cs) (filter (is_gone new) cs))) k o) other
          ∙ ap (λ b. named_at (gone cs new) k (cond b (non_null null) o)) (key_eq-symm c.0 k ∙ s) ∙ ap (named_at (gone cs new) k) no_null ∙ gone_nothing cs new k
      | false ↦ λ s g.
          elim (is_some (child_of new c.0)) as (λ b. named_at (emptied (cond (not b) (c ∷ filter (is_gone new) cs) (filter (is_gone new) cs))) k o ≡ None) [
            | true ↦ gone_goes cs new k v o h g
            | false ↦ gone_goes cs new k v (cond (key_eq c.0 k) (non_null null) o) h g
          ]
    ] refl there

-- ---- children that come

come_none : (old new : Children) (k : Key) (o : Option PathTree) → child_of new k ≡ None → named_at (come old new) k o ≡ o
come_none old [] k o h = refl
come_none old (c ∷ cs) k o h =
    elim (key_eq k c.0) as (λ b. key_eq k c.0 ≡ b → cond b (Some c.1) (child_of cs k) ≡ None → named_at (come old (c ∷ cs)) k o ≡ o) [
      | true ↦ λ s g. cc
      | false ↦ λ s g.
          elim (stays (child_of old c.0) c.1) as (λ b. named_at (cond (not b) (c ∷ filter (is_come old) cs) (filter (is_come old) cs)) k o ≡ o) [
            | true ↦ come_none old cs k o g
            | false ↦ ap (λ b. named_at (come old cs) k (cond b (non_null c.1) o)) (key_eq-symm c.0 k ∙ s) ∙ come_none old cs k o g
          ]
    ] refl h

-- what stays stood there
pub stood : (before : Option PathTree) (t : PathTree) → stays before t ≡ true → before ≡ Some t
stood None t e = cc
stood (Some b) t e = ap Some ((tree_eq_tells b t).0 e)

come_some : (old new : Children) (k : Key) (v : PathTree) (o : Option PathTree) → EachOnce new → is_null v ≡ false → child_of new k ≡ Some v → o ≡ child_of old k → named_at (come old new) k o ≡ Some v
come_some old [] k v o once some there is = cc
come_some old (c ∷ cs) k v o once some there is =
    elim (key_eq k c.0) as (λ b. key_eq k c.0 ≡ b → cond b (Some c.1) (child_of cs k) ≡ Some v → named_at (come old (c ∷ cs)) k o ≡ Some v) [
      | true ↦ λ s g.
          let same : k ≡ c.0 = key_eq-is k c.0 s in
          let value : c.1 ≡ v = cc in
          let none : child_of cs k ≡ None = ap (child_of cs) same ∙ once.0 in
          elim (stays (child_of old c.0) c.1) as (λ b. stays (child_of old c.0) c.1 ≡ b → named_at (cond (not b) (c ∷ filter (is_come old) cs) (filter (is_come old) cs)) k o ≡ Some v) [
            | true ↦ λ e. come_none old cs k o none ∙ is ∙ ap (child_of old) same ∙ stood (child_of old c.0) c.1 e ∙ ap Some value
            | false ↦ λ e. ap (λ b. named_at (come old cs) k (cond b (non_null c.1) o)) (key_eq-symm c.0 k ∙ s) ∙ come_none old cs k (non_null c.1) none ∙ ap non_null value ∙ ap (λ b. cond b None (Some v)) some
          ] refl
      | false ↦ λ s g.
          elim (stays (child_of old c.0) c.1) as (λ b. named_at (cond (not b) (c ∷ filter (is_come old) cs) (filter (is_come old) cs)) k o ≡ Some v) [
            | true ↦ come_some old cs k v o once.1 some g is
            | false ↦ ap (λ b. named_at (come old cs) k (cond b (non_null c.1) o)) (key_eq-symm c.0 k ∙ s) ∙ come_some old cs k v o once.1 some g is
          ]
    ] refl there

-- ---- both

-- the child at a place is found under its key
pub child_at_place : (cs : Children) (n : ℕ) (c : Key × PathTree) → EachOnce cs → slice_get cs n ≡ Some c → child_of cs c.0 ≡ Some c.1
child_at_place [] n c once e = cc
child_at_place (d ∷ cs) zero c once e =
    let same : d ≡ c = cc in
    subst (λ (x : Key × PathTree). child_of (d ∷ cs) x.0 ≡ Some x.1) same (ap (λ b. cond b (Some d.1) (child_of cs d.0)) (key_eq-same d.0))
child_at_place (d ∷ cs) (suc n) c once e =
    let rest : child_of cs c.0 ≡ Some c.1 = child_at_place cs n c once.1 e in
    let apart : key_eq c.0 d.0 ≡ false = elim (key_eq c.0 d.0) as (λ b. key_eq c.0 d.0 ≡ b → b ≡ false) [
      | true ↦ λ s. cc (rest, once.0, key_eq-is c.0 d.0 s)
      | false ↦ λ s. refl
    ] refl in
    ap (λ b. cond b (Some d.1) (child_of cs c.0)) apart ∙ rest

-- an object is no leaf
pub object_leaf : (t : PathTree) → is_object t ≡ true → leaf_of t ≡ None
object_leaf t e = at (is_null t) (leaf_of t) e
  where
    at : (b : Bool) (o : Option LeafValue) → (not b && not (is_some o)) ≡ true → o ≡ None
    at b None s = refl
    at true (Some l) s = cc
    at false (Some l) s = cc

-- no child of a tree is null
child_full : (t : PathTree) (k : Key) (v : PathTree) → child_of (children_of t) k ≡ Some v → is_null v ≡ false
child_full t k v e = at (is_null (child t k)) refl (sym (child_of-children_of t k) ∙ e)
  where
    at : (b : Bool) → is_null (child t k) ≡ b → cond b None (Some (child t k)) ≡ Some v → is_null v ≡ false
    at true s g = cc
    at false s g =
        let same : child t k ≡ v = cc in
        subst (λ x. is_null x ≡ false) same s

-- a tree stays as it is where a child is put that stands there
pub put_there : (t : PathTree) (k : Key) (v : PathTree) → child_of (children_of t) k ≡ Some v → put t (k ∷ []) v ≡ t
put_there t k v there =
    sym (object-parts made (children_of t) (leaf_of-put t k v root) (λ j. sym (child_of-put t k j v ∙ at j) ∙ child_of-children_of made j))
    ∙ object-parts t (children_of t) root (child_of-children_of t)
  where
    made : PathTree
    made = put t (k ∷ []) v

    root : leaf_of t ≡ None
    root = elim (leaf_of t) as (λ o. leaf_of t ≡ o → o ≡ None) [
      | None ↦ λ e. refl
      | Some l ↦ λ e.
          let gone : child t k ≡ null = null_of_no_leaf (child t k) (λ q. leaf_at-sub t (k ∷ []) q ∙ leaf_alone t [] l k q e) in
          let none : child_of (children_of t) k ≡ None = child_of-children_of t k ∙ ap non_null gone ∙ no_null in
          cc (none, there)
    ] refl

    at : (j : Key) → cond (key_eq k j) (non_null v) (child_of (children_of t) j) ≡ child_of (children_of t) j
    at j = elim (key_eq k j) as (λ b. key_eq k j ≡ b → cond b (non_null v) (child_of (children_of t) j) ≡ child_of (children_of t) j) [
      | true ↦ λ e. ap (λ b. cond b None (Some v)) (child_full t k v there) ∙ sym there ∙ ap (child_of (children_of t)) (key_eq-is k j e)
      | false ↦ λ e. refl
    ] refl

turned_at : (old new : PathTree) (k : Key) → named_at (differing (children_of old) (children_of new)) k (child_of (children_of old) k) ≡ child_of (children_of new) k
turned_at old new k =
    let es = children_of old in
    let fs = children_of new in
    named_at-append (gone es fs) (come es fs) k (child_of es k)
    ∙ elim (child_of fs k) as (λ o. child_of fs k ≡ o → named_at (come es fs) k (named_at (gone es fs) k (child_of es k)) ≡ o) [
      | None ↦ λ e. come_none es fs k (named_at (gone es fs) k (child_of es k)) e ∙ was (child_of es k) refl (ap is_some e)
      | Some v ↦ λ e.
          come_some es fs k v (named_at (gone es fs) k (child_of es k)) (each_once fs (children_sorted new)) (child_full new k v e) e (gone_stays es fs k (child_of es k) (ap is_some e))
    ] refl
  where
    was : (o : Option PathTree) → child_of (children_of old) k ≡ o → is_some (child_of (children_of new) k) ≡ false → named_at (gone (children_of old) (children_of new)) k o ≡ None
    was None e h = gone_nothing (children_of old) (children_of new) k
    was (Some v) e h = gone_goes (children_of old) (children_of new) k v (Some v) h e

-- where neither is a leaf, the one becomes the other
pub turned_into : (old new : PathTree) → leaf_of old ≡ None → leaf_of new ≡ None → with_named old (differing (children_of old) (children_of new)) ≡ new
turned_into old new h g =
    let named = differing (children_of old) (children_of new) in
    let made = with_named old named in
    sym (object-parts made (children_of new) (leaf_of-with_named old named h)
    (λ k. sym (child_of-with_named old named k ∙ turned_at old new k) ∙ child_of-children_of made k))
    ∙ object-parts new (children_of new) g (λ k. child_of-children_of new k)

-- ---- what is named fits below a key

abbrev pub Fits : Key × PathTree → Type 0
Fits c = levels c.1 ≤ 32

nulls_fit : (cs : Children) → All Fits (emptied cs)
nulls_fit [] = All-nil Fits
nulls_fit (c ∷ cs) = All-cons Fits (c.0, null) (emptied cs) (omega (arith, levels-null)) (nulls_fit cs)

-- children that stand once each, and fit by what stands at their keys
once_fit : (cs : Children) → EachOnce cs → ((k : Key) (v : PathTree) → child_of cs k ≡ Some v → levels v ≤ 32) → All Fits cs
once_fit [] once h = All-nil Fits
once_fit (c ∷ cs) once h =
    All-cons Fits c cs (h c.0 c.1 (ap (λ b. cond b (Some c.1) (child_of cs c.0)) (key_eq-same c.0)))
    (once_fit cs once.1 (λ k v e. h k v (ap (λ b. cond b (Some c.1) (child_of cs k)) (apart k v e) ∙ e)))
  where
    apart : (k : Key) (v : PathTree) → child_of cs k ≡ Some v → key_eq k c.0 ≡ false
    apart k v e = elim (key_eq k c.0) as (λ b. key_eq k c.0 ≡ b → b ≡ false) [
      | true ↦ λ s. cc (e, once.0, key_eq-is k c.0 s)
      | false ↦ λ s. refl
    ] refl

pub named_fit : (old new : PathTree) → IsAllowed new → All Fits (differing (children_of old) (children_of new))
named_fit old new allowed =
    let fs = children_of new in
    All-append Fits (gone (children_of old) fs) (come (children_of old) fs)
    (nulls_fit (filter (is_gone fs) (children_of old)))
    (All-filter (is_come (children_of old)) Fits fs
    (once_fit fs (each_once fs (children_sorted new)) (λ k v e. (child_fits new k v allowed e).1)))

-- rows whose keys are apart fit by what stands at their keys
once_rows : (rs : List Row) → HasDistinctKeys rs → ((k : Key) (v : PathTree) → row_at rs k ≡ Some v → levels v ≤ 32) → All (λ (r : Row). levels r.value ≤ 32) rs
once_rows [] once h = All-nil (λ (r : Row). levels r.value ≤ 32)
once_rows (r ∷ rs) once h =
    All-cons (λ (s : Row). levels s.value ≤ 32) r rs (h r.key r.value (row_at-cons r rs r.key ∙ ap (λ b. cond b (Some r.value) (row_at rs r.key)) (key_eq-same r.key)))
    (once_rows rs once.1 (λ k v e. h k v (row_at-cons r rs k ∙ ap (λ b. cond b (Some r.value) (row_at rs k)) (apart k v e) ∙ e)))
  where
    apart : (k : Key) (v : PathTree) → row_at rs k ≡ Some v → key_eq r.key k ≡ false
    apart k v e = elim (key_eq r.key k) as (λ b. key_eq r.key k ≡ b → b ≡ false) [
      | true ↦ λ s. cc (e, once.0, key_eq-is r.key k s)
      | false ↦ λ s. refl
    ] refl

-- what a window shows fits below a key
pub rows_fit : (q : Query) (t : PathTree) (w : OrderedChildren) → IsAllowed t → IsWindowOf q t w → All (λ (r : Row). levels r.value ≤ 32) (map row_of (shown_in w))
rows_fit q t w allowed kept =
    once_rows (map row_of (shown_in w)) (listed-window q t w kept).once (λ k v e. (child_fits t k v allowed (shown_known q t w k v kept e).0).1)

-- the object of what a window shows, where its query is filtered
pub object_shown : (q : Query) (t : PathTree) (w : OrderedChildren) → is_filtered q ≡ true → IsWindowOf q t w → object (as_children (map row_of (shown_in w))) ≡ tree_of (select q t)
object_shown q t w filtered kept =
    ap (λ (es : Entries). object (as_children (map row_of es))) (sym kept.cut.cut)
    ∙ sym (ap (λ l. tree_by l (rows_of q (children_of t))) (filtered_leaf q t filtered))

-- what holds of an answer, by what holds where there is one
pub if_both : {T E P : Type 0} (r : Result T E) (A B : T → Type 0) → ((x : T) → P → A x → B x) → OnOk r P → IfOk r A → IfOk r B
if_both (Ok x) A B f p a = f x p a
if_both (Err e) A B f p a = tt
