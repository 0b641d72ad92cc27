-- What a write leaves as it is, and where it is seen that it does not.
use Rattle.std.proofs.Common.{◌≡◌, Bool, true, false, cond, not, ◌&&◌, ◌||◌, List, [], ◌∷◌, ◌++◌}
use Rattle.std.proofs.Common.{Option, Some, None, is_some, refl, sym, ap, ◌∙◌, append_assoc, append-nil, if◌then◌else◌}
use Rattle.std.specs.List.{list_any, list_all}
use Rattle.rt_tree.specs.Leaf.{LeafValue}
use Rattle.rt_tree.specs.Leaves.{after_put}
use Rattle.rt_tree.specs.PathTree.{Path, PathTree, sub, put, is_null, null, non_null, leaf_at, leaf_at-put, leaf_at-sub, leaf_alone}
use Rattle.rt_tree.specs.PathTree.{same_tree, null_of_no_leaf, is_null-null, null_of_is_null, strip, strip-append, strip-some}
use Rattle.rt_tree.specs.Parts.{sub-sub, sub-put_other}
use Rattle.rt_tree.specs.TreeEq.{tree_eq, tree_eq_tells, both_first, both_second}
use Rattle.rt_tree.specs.Assignments.{Assignment, is_at_or_above}
use Rattle.rt_query.specs.Queries.{Query, is_filtered}
use Rattle.rt_query.specs.Select.{select, tree_of}
use Rattle.rt_peer.specs.Peers.{Listen}
use Rattle.rt_peer.specs.Pushes.{is_changed, seen, written}
use Rattle.rt_peer.specs.inside.Standing.{leaves_part, stands, tells_apart}

-- below a leaf there is none
below_leaf : (t : PathTree) (p q r : Path) (l : LeafValue) → p ≡ q ++ r → strip p q ≡ None
    → leaf_at t q ≡ Some l → (x : Path) → leaf_at t (p ++ x) ≡ None
below_leaf t p q [] l is e g x =
    let itself : strip p q ≡ Some [] =
    ap (λ z. strip z q) (is ∙ append-nil q) ∙ ap (strip q) (sym (append-nil q)) ∙ strip-append q [] in
    cc (sym e ∙ itself)
below_leaf t p q (k ∷ r) l is e g x =
    ap (λ z. leaf_at t (z ++ x)) is ∙ ap (leaf_at t) (append_assoc q (k ∷ r) x) ∙ leaf_alone t q l k (r ++ x) g

no_leaf_hidden : (b : Bool) (o : Option LeafValue) → o ≡ None → cond b None o ≡ o
no_leaf_hidden true o e = sym e
no_leaf_hidden false o e = refl

and_false : (n : Bool) (o : Option LeafValue) → cond (n && false) None o ≡ o
and_false true o = refl
and_false false o = refl

-- a leaf above the part stays, since the part is null then
above_part : (t : PathTree) (p q : Path) → strip p q ≡ None
    → cond (not (is_null (sub t p)) && is_some (strip q p)) None (leaf_at t q) ≡ leaf_at t q
above_part t p q e =
    elim (strip q p) as (λ o. strip q p ≡ o
    → cond (not (is_null (sub t p)) && is_some o) None (leaf_at t q) ≡ leaf_at t q) [
      | None ↦ λ f. and_false (not (is_null (sub t p))) (leaf_at t q)
      | Some r ↦ λ f. elim (leaf_at t q) as (λ o. leaf_at t q ≡ o
          → cond (not (is_null (sub t p)) && true) None o ≡ o) [
            | None ↦ λ g. no_leaf_hidden (not (is_null (sub t p)) && true) None refl
            | Some l ↦ λ g. ap (λ b. cond (not b && true) None (Some l)) (ap is_null (null_of_no_leaf (sub t p)
                (λ x. leaf_at-sub t p x ∙ below_leaf t p q r l (strip-some q p r f) e g x)) ∙ is_null-null)
          ] refl
    ] refl

-- the part at p, put where it is
pub put_same : (t : PathTree) (p : Path) → put t p (sub t p) ≡ t
put_same t p = same_tree (put t p (sub t p)) t (λ q.
    leaf_at-put t p (sub t p) q ∙ elim (strip p q) as (λ o. strip p q ≡ o
    → after_put o (leaf_at (sub t p)) (not (is_null (sub t p)) && is_some (strip q p)) (leaf_at t q)
    ≡ leaf_at t q) [
      | Some r ↦ λ e. leaf_at-sub t p r ∙ ap (leaf_at t) (sym (strip-some p q r e))
      | None ↦ λ e. above_part t p q e
    ] refl)

-- equal parts at p have equal parts below
below_same : (t u : PathTree) (p q r : Path) → strip p q ≡ Some r → sub t p ≡ sub u p → sub t q ≡ sub u q
below_same t u p q r e same =
    ap (sub t) (strip-some p q r e) ∙ sym (sub-sub t p r) ∙ ap (λ v. sub v r) same ∙ sub-sub u p r
    ∙ ap (sub u) (sym (strip-some p q r e))

stands_so : (t u : PathTree) (p : Path) (a : Assignment) → sub t p ≡ sub u p → stands t p a ≡ stands u p a
stands_so t u p a same =
    elim (strip p a.0) as (λ o. strip p a.0 ≡ o
    → (not (is_some o) || tree_eq (sub t a.0) a.1) ≡ (not (is_some o) || tree_eq (sub u a.0) a.1)) [
      | None ↦ λ e. refl
      | Some r ↦ λ e. ap (λ v. tree_eq v a.1) (below_same t u p a.0 r e same)
    ] refl

all_stand : (t u : PathTree) (p : Path) (es : List Assignment) → sub t p ≡ sub u p
    → list_all (stands t p) es ≡ list_all (stands u p) es
all_stand t u p [] same = refl
all_stand t u p (a ∷ es) same = λ i. stands_so t u p a same i && all_stand t u p es same i

or_first : (b c : Bool) → (b || c) ≡ false → b ≡ false
or_first true c e = e
or_first false c e = refl

or_second : (b c : Bool) → (b || c) ≡ false → c ≡ false
or_second true c e = cc
or_second false c e = e

is_none : {X : Type 0} (o : Option X) → is_some o ≡ false → o ≡ None
is_none None e = refl
is_none (Some x) e = cc

not_true : (b : Bool) → not b ≡ true → b ≡ false
not_true true e = cc
not_true false e = refl

-- entries that are not above p, and that write below it what stands there, leave the part
part_stays : (t : PathTree) (p : Path) (es : List Assignment) → list_any (λ a. is_at_or_above a.0 p) es ≡ false
    → list_all (stands t p) es ≡ true → sub (written t es) p ≡ sub t p
part_stays t p [] above all = refl
part_stays t p (a ∷ es) above all =
    let later = or_second (is_at_or_above a.0 p) (list_any (λ b. is_at_or_above b.0 p) es) above in
    elim (strip p a.0) as (λ o. strip p a.0 ≡ o
    → ((not (is_some o) || tree_eq (sub t a.0) a.1) && list_all (stands t p) es) ≡ true
    → sub (written (put t a.0 a.1) es) p ≡ sub t p) [
      | Some r ↦ λ e h.
          let there : sub t a.0 ≡ a.1 = (tree_eq_tells (sub t a.0) a.1).0 (both_first _ _ h) in
          let same : put t a.0 a.1 ≡ t = ap (put t a.0) (sym there) ∙ put_same t a.0 in
          ap (λ u. sub (written u es) p) same ∙ part_stays t p es later (both_second _ _ h)
      | None ↦ λ e h.
          let apart = is_none (strip a.0 p) (or_first (is_at_or_above a.0 p) (list_any (λ b. is_at_or_above b.0 p) es) above) in
          let here : sub (put t a.0 a.1) p ≡ sub t p = sub-put_other t a.0 p a.1 apart e in
          part_stays (put t a.0 a.1) p es later (all_stand (put t a.0 a.1) t p es here ∙ both_second true (list_all (stands t p) es) h) ∙ here
    ] refl all

-- what a query shows goes by the part at its path
pub seen_so : (q : Query) (t u : PathTree) → sub t q.path ≡ sub u q.path → seen q t ≡ seen q u
seen_so q t u same = ap (λ v. if is_filtered q then tree_of (select q v) else v) same

pub kept : (t : PathTree) (p : Path) (es : List Assignment) → leaves_part t p es ≡ true
    → sub (written t es) p ≡ sub t p
kept t p es e =
    part_stays t p es (not_true _ (both_first (not (list_any (λ a. is_at_or_above a.0 p) es)) _ e))
    (both_second (not (list_any (λ a. is_at_or_above a.0 p) es)) _ e)

-- so it shows the same
pub unchanged : (t : PathTree) (es : List Assignment) (l : Listen) → leaves_part t l.query.path es ≡ true
    → is_changed t (written t es) l ≡ false
unchanged t es l e =
    ap not ((tree_eq_tells (seen l.query t) (seen l.query (written t es))).1
    (sym (seen_so l.query (written t es) t (kept t l.query.path es e))))

-- where two trees differ below p, their parts at p do
apart_so : (t u : PathTree) (p : Path) (es : List Assignment) → list_any (tells_apart t u p) es ≡ true
    → sub t p ≡ sub u p → true ≡ false
apart_so t u p [] e same = sym e
apart_so t u p (a ∷ es) e same =
    elim (strip p a.0) as (λ o. strip p a.0 ≡ o
    → ((is_some o && not (tree_eq (sub t a.0) (sub u a.0))) || list_any (tells_apart t u p) es) ≡ true
    → true ≡ false) [
      | None ↦ λ f h. apart_so t u p es h same
      | Some r ↦ λ f h. apart_so t u p es
          (ap (λ b. not b || list_any (tells_apart t u p) es)
          (sym ((tree_eq_tells (sub t a.0) (sub u a.0)).1 (below_same t u p a.0 r f same))) ∙ h) same
    ] refl e

pub told_apart : (t u : PathTree) (p : Path) (es : List Assignment) → list_any (tells_apart t u p) es ≡ true
    → tree_eq (sub t p) (sub u p) ≡ false
told_apart t u p es e =
    elim (tree_eq (sub t p) (sub u p)) as (λ b. tree_eq (sub t p) (sub u p) ≡ b → b ≡ false) [
      | true ↦ λ f. apart_so t u p es e ((tree_eq_tells _ _).0 f)
      | false ↦ λ f. refl
    ] refl

-- a tree is null where it is the null tree
pub null_eq : (u : PathTree) → is_null u ≡ tree_eq null u
null_eq u =
    elim (is_null u) as (λ b. is_null u ≡ b → b ≡ tree_eq null u) [
      | true ↦ λ e. sym ((tree_eq_tells null u).1 (sym (null_of_is_null u e)))
      | false ↦ λ e. elim (tree_eq null u) as (λ b. tree_eq null u ≡ b → false ≡ b) [
        | true ↦ λ f. sym e ∙ ap is_null (sym ((tree_eq_tells null u).0 f)) ∙ is_null-null
        | false ↦ λ f. refl
      ] refl
    ] refl

is_so : (b : Bool) → false ≡ not b → b ≡ true
is_so true e = refl
is_so false e = cc

is_not : (b : Bool) → true ≡ not b → b ≡ false
is_not true e = cc
is_not false e = refl

-- and there is no part where it is
pub none_eq : (u : PathTree) (b : Bool) → is_some (non_null u) ≡ not b → b ≡ tree_eq u null
none_eq u b e =
    elim (is_null u) as (λ n. is_null u ≡ n → is_some (cond n None (Some u)) ≡ not b → b ≡ tree_eq u null) [
      | true ↦ λ n x. is_so b x ∙ sym ((tree_eq_tells u null).1 (null_of_is_null u n))
      | false ↦ λ n x. is_not b x ∙ elim (tree_eq u null) as (λ d. tree_eq u null ≡ d → false ≡ d) [
        | true ↦ λ f. sym n ∙ ap is_null ((tree_eq_tells u null).0 f) ∙ is_null-null
        | false ↦ λ f. refl
      ] refl
    ] refl e
