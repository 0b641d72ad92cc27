-- What a window shows under each key once a child was put or taken out.
use Rattle.std.specs.Prelude.{IfOk, IfSome, Result, Ok, Err}
use Rattle.std.proofs.Common.{◌≡◌, Bool, true, false, cond, not, ◌&&◌, refl, sym, ap, subst, ◌∙◌, Option, Some, None, is_some}
use Rattle.std.specs.Ordering.{is_eq, eq_by_cmp}
use Rattle.std.specs.Cmp.{tied_itself, Equal-is}
use Rattle.std.specs.FinMap as map_of
use Rattle.std.specs.FinMap.Entries.{find}
use Rattle.rt_tree.specs.PathTree.{Key, PathTree, first, key_eq, key_eq-is, key_eq-same, key_eq-symm, is_null, child_of}
use Rattle.rt_tree.specs.Children.{children_of}
use Rattle.rt_order.specs.Entries.{Entry, entry, entry_cmp, sort_value}
use Rattle.rt_order.specs.Values.{value_cmp}
use Rattle.rt_order.specs.declared.index.Index.{Index}
use Rattle.rt_order.specs.Cuts.{has}
use Rattle.rt_order.specs.laws.EntryOrder.{entry_cmp_total, value_cmp-IsAntisymmetric}
use Rattle.rt_query.specs.Queries.{Query}
use Rattle.rt_view.specs.declared.window.Turned.{Turned}
use Rattle.rt_view.specs.inside.Ranged.{OrderedChildren}
use Rattle.rt_view.specs.inside.Windows.{Entries, IsWindow, is_there, joined, value_at, without, rest_in, shown_in}
use Rattle.rt_view.specs.inside.ViewIndex.{IsWindowOf, in_order, taken_out}
use Rattle.rt_view.specs.inside.Telling.{left_by, takes_place}
use Rattle.rt_view.specs.inside.Turns.{Comes, Leaves, Refilled, Refills, Spilled, SpilledBy, Spills, Stands, set_at}
use Rattle.rt_view.proofs.Listed.{IsParted, parted, IsListed, passing, at_entry, find-value_at, listed-filter, listed-puts, value_at-puts_all, value_at-in_order, listed-in_order}
use Rattle.rt_view.proofs.Orderings.{find_lookup}
use Rattle.rt_view.proofs.TouchLaws.{HasAt, StandsAt, cond_twice, left_here}
use Rattle.rt_view.proofs.WindowLaws.{puts-without, same_entry}

-- ---- one entry more, or less

-- what is found at an entry is under its key, and the entry is its own
at_found : (index : Index) (e : Entry) (v : PathTree) (o : Option PathTree) → at_entry index e o ≡ Some v → (o ≡ Some v) × (e ≡ entry index (e.1, v))
at_found index e v None h = cc
at_found index e v (Some x) h =
    elim (eq_by_cmp entry_cmp e (entry index (e.1, x))) as (λ b. eq_by_cmp entry_cmp e (entry index (e.1, x)) ≡ b → cond b (Some x) None ≡ Some v → (Some x ≡ Some v) × (e ≡ entry index (e.1, v))) [
      | true ↦ λ t g.
          let same : x ≡ v = cc in
          (g, same_entry e (entry index (e.1, x)) t ∙ ap (λ (y : PathTree). entry index (e.1, y)) same)
      | false ↦ λ t g. cc
    ] refl h

pub found_at : (index : Index) (e : Entry) (v : PathTree) (es : Entries) → IsListed index es → find entry_cmp e es ≡ Some v → (value_at es e.1 ≡ Some v) × (e ≡ entry index (e.1, v))
found_at index e v es h is = at_found index e v (value_at es e.1) (sym (find-value_at index es h.own h.once e) ∙ is)

pub put_here : (index : Index) (k : Key) (v : PathTree) (es : Entries) → IsListed index es → StandsAt index k (entry index (k, v)) es
    → HasAt index es k (Some v) (map_of.put entry_cmp (entry index (k, v)) v es)
put_here index k v es h stands =
    let e : Entry = entry index (k, v) in
    let left = left_here index k e refl es h stands in
    let none : value_at (without e es) k ≡ None = left.value k ∙ ap (λ b. cond b None (value_at es k)) (key_eq-same k) in
    let same : map_of.put entry_cmp e v (without e es) ≡ map_of.put entry_cmp e v es = puts-without e v es h.rises in
    record {
      listed = subst (IsListed index) same (listed-puts index k v (without e es) left.listed none);
      value = λ j. ap (λ (fs : Entries). value_at fs j) (sym same) ∙ value_at-puts_all index k v (without e es) none j
          ∙ ap (cond (key_eq k j) (Some v)) (left.value j) ∙ cond_twice (key_eq k j) (Some v) None (value_at es j);
    }

no_value : (index : Index) (k : Key) (e : Entry) (es : Entries) → value_at es k ≡ None → StandsAt index k e es
no_value index k e es none x g = cc

-- ---- a child comes

entry_says : (index : Index) (e : Entry) (o : Option PathTree) → ((x : PathTree) → o ≡ Some x → entry index (e.1, x) ≡ e) → is_some (at_entry index e o) ≡ is_some o
entry_says index e None g = refl
entry_says index e (Some x) g =
    ap (λ (z : Entry). is_some (cond (eq_by_cmp entry_cmp e z) (Some x) None)) (g x refl)
    ∙ ap (λ o. is_some (cond (is_eq o) (Some x) None)) (tied_itself entry_cmp_total e)

-- whether something is found at the entry says whether something stands under the key
pub found_says : (index : Index) (k : Key) (v : PathTree) (es : Entries) → IsListed index es → StandsAt index k (entry index (k, v)) es
    → is_there (entry index (k, v)) es ≡ is_some (value_at es k)
found_says index k v es h stands =
    ap is_some (find_lookup es (entry index (k, v)) ∙ find-value_at index es h.own h.once (entry index (k, v))) ∙ entry_says index (entry index (k, v)) (value_at es k) stands

none_of : (o : Option PathTree) → false ≡ is_some o → o ≡ None
none_of None e = refl
none_of (Some x) e = cc

set_same : (k : Key) (es : Entries) → value_at es k ≡ None → (j : Key) → value_at es j ≡ set_at k None (value_at es) j
set_same k es none j =
    elim (key_eq k j) as (λ b. key_eq k j ≡ b → value_at es j ≡ cond b None (value_at es j)) [
      | true ↦ λ e. ap (value_at es) (sym (key_eq-is k j e)) ∙ none
      | false ↦ λ e. refl
    ] refl

-- two facts of one answer
pub both_ok : {X E : Type 0} (r : Result X E) (P Q R : X → Type 0) → ((x : X) → P x → Q x → R x) → IfOk r P → IfOk r Q → IfOk r R
both_ok (Ok x) P Q R f p q = f x p q
both_ok (Err e) P Q R f p q = tt

-- one that isn't shown
pub comes_not : (k : Key) (child : PathTree) (before : Entries) → value_at before k ≡ None → Comes k child false false None before before
comes_not k child before none = record { own = sym (ap is_some none); apart = tt; all = set_same k before none }

no_stand : (q : Query) (k : Key) (child : PathTree) (es : Entries) → Stands q k child es → ((is_null child ≡ false) × (has q.range (entry q.index (k, child)) ≡ true) → ⊥) → value_at es k ≡ None
no_stand q k child es stands nowhere = at (value_at es k) refl
  where
    at : (o : Option PathTree) → value_at es k ≡ o → o ≡ None
    at None g = refl
    at (Some x) g = let is = stands x g in absurd (nowhere (is.0, is.2))

-- null
pub comes_null : (q : Query) (k : Key) (child : PathTree) (es : Entries) → Stands q k child es → is_null child ≡ true
    → Comes k child false false None es es
comes_null q k child es stands null = comes_not k child es (no_stand q k child es stands (λ g. cc (g.0, null)))

module _ (index : Index) (k : Key) (child : PathTree) (before after : Entries) (h : IsListed index before) (stands : StandsAt index k (entry index (k, child)) before) where
  more : Entries
  more = map_of.put entry_cmp (entry index (k, child)) child before

  spilled : (was : Bool) (crossed : Option (Key × PathTree)) → was ≡ is_some (value_at before k) → Spilled crossed more after
      → Comes k child was true crossed before after
  unfolding more
  spilled was None is s = record {
    own = is;
    apart = tt;
    all = λ j. ap (λ (fs : Entries). value_at fs j) s ∙ (put_here index k child before h stands).value j;
  }
  spilled was (Some c) is s =
      let put = put_here index k child before h stands in
      let e : Entry = s.0 in
      let found = found_at index e c.1 more put.listed s.2 in
      let there : value_at more c.0 ≡ Some c.1 = ap (value_at more) (sym s.1) ∙ found.0 in
      let own : e ≡ entry index (c.0, c.1) = found.1 ∙ ap (λ (i : Key). entry index (i, c.1)) s.1 in
      let gone = left_here index c.0 e s.1 more put.listed (λ x g. let same : x ≡ c.1 = cc in ap (λ (y : PathTree). entry index (c.0, y)) same ∙ sym own) in
      record {
        own = is;
        apart = sym (put.value c.0) ∙ there;
        all = λ j. ap (λ (fs : Entries). value_at fs j) s.3 ∙ gone.value j ∙ ap (cond (key_eq c.0 j) None) (put.value j);
      }

  pub comes_put : (turned : Turned) → turned.was ≡ is_there (entry index (k, child)) before
      → Spills turned before (map_of.put entry_cmp (entry index (k, child)) child before) after → Comes k child turned.was turned.is turned.crossed before after
  unfolding more
  comes_put turned was s = at turned.is refl s
    where
      says : turned.was ≡ is_some (value_at before k)
      says = was ∙ found_says index k child before h stands

      at : (b : Bool) → turned.is ≡ b → SpilledBy b turned.was turned.crossed before (map_of.put entry_cmp (entry index (k, child)) child before) after → Comes k child turned.was turned.is turned.crossed before after
      at true e g = subst (λ b. Comes k child turned.was b turned.crossed before after) (sym e) (spilled turned.was turned.crossed says g)
      at false e g =
          subst (λ (fs : Entries). Comes k child turned.was turned.is turned.crossed before fs) (sym g.2)
          (subst (λ (o : Option (Key × PathTree)). Comes k child turned.was turned.is o before before) (sym g.0)
          (subst (λ b. Comes k child turned.was b None before before) (sym e)
          (subst (λ b. Comes k child b false None before before) (sym g.1)
          (comes_not k child before (none_of (value_at before k) (sym g.1 ∙ says))))))

-- ---- a child is taken out

passing_some : (p : Entry → Bool) (index : Index) (k : Key) (o : Option PathTree) (x : PathTree) → passing p index k o ≡ Some x → (o ≡ Some x) × (p (entry index (k, x)) ≡ true)
passing_some p index k None x h = cc
passing_some p index k (Some v) x h =
    elim (p (entry index (k, v))) as (λ b. p (entry index (k, v)) ≡ b → cond b (Some v) None ≡ Some x → (Some v ≡ Some x) × (p (entry index (k, x)) ≡ true)) [
      | true ↦ λ t g. let same : v ≡ x = cc in (g, ap (λ (y : PathTree). p (entry index (k, y))) (sym same) ∙ t)
      | false ↦ λ t g. cc
    ] refl h

-- what is shown is known, and in the range
pub shown_known : (q : Query) (t : PathTree) (w : OrderedChildren) (k : Key) (x : PathTree) → IsWindowOf q t w → value_at (shown_in w) k ≡ Some x → (child_of (children_of t) k ≡ Some x) × (has q.range (entry q.index (k, x)) ≡ true)
shown_known q t w k x h is =
    let parts = parted q.index q.limit (shown_in w) (rest_in w) _ h.cut (listed-in_order q t) in
    passing_some (has q.range) q.index k (child_of (children_of t) k) x (sym (value_at-in_order q t k) ∙ parts.among k x is)

-- nothing is told of what stays in place
pub leaves_still : (q : Query) (k : Key) (o : Option PathTree) (new : PathTree) (es : Entries) → Stands q k new es → Leaves q k o new false None es es
leaves_still q k o new es stands = record { own = refl; stands = stands; apart = tt; others = λ j e. refl }

module _ (q : Query) (u : PathTree) (w : OrderedChildren) (k : Key) (h : IsWindowOf q u w) where
  -- no child stands at the key
  pub leaves_none : (new : PathTree) → child_of (children_of u) k ≡ None → Leaves q k None new false None (shown_in w) (shown_in w)
  leaves_none new none = leaves_still q k None new (shown_in w) (λ x g. cc (none, (shown_known q u w k x h g).0))

  -- one whose place is taken
  pub leaves_place : (t new : PathTree) → child_of (children_of u) k ≡ Some t → takes_place q.index t new ≡ true
      → Leaves q k (Some t) new false None (shown_in w) (shown_in w)
  leaves_place t new is takes = leaves_still q k (Some t) new (shown_in w) (λ x g.
      let known = shown_known q u w k x h g in
      let same : x ≡ t = cc (known.0, is) in
      let parts = both_of (is_null new) (is_eq (value_cmp (sort_value q.index t) (sort_value q.index new))) takes in
      let place : entry q.index (k, t) ≡ entry q.index (k, new) =
      λ i. (value_cmp-IsAntisymmetric (sort_value q.index t) (sort_value q.index new) ((Equal-is (value_cmp (sort_value q.index t) (sort_value q.index new))).0 parts.1) i, k) in
      let there : entry q.index (k, x) ≡ entry q.index (k, new) = ap (λ (y : PathTree). entry q.index (k, y)) same ∙ place in
      (parts.0, there, ap (has q.range) (sym there) ∙ known.1))
    where
      both_of : (a b : Bool) → (not a && b) ≡ true → (a ≡ false) × (b ≡ true)
      both_of true b e = cc
      both_of false b e = (refl, e)

  module _ (t new : PathTree) (is : child_of (children_of u) k ≡ Some t) (turned : Turned) (after : Entries)
      (was : turned.was ≡ is_there (entry q.index (k, t)) (shown_in w))
      (refills : Refills turned (rest_in w) (without (entry q.index (k, t)) (shown_in w)) after) where
    here : StandsAt q.index k (entry q.index (k, t)) (shown_in w)
    here x g = let same : x ≡ t = cc (is, (shown_known q u w k x h g).0) in ap (λ (y : PathTree). entry q.index (k, y)) same

    parts : IsParted q.index (shown_in w) (rest_in w) (in_order q (children_of u))
    parts = parted q.index q.limit (shown_in w) (rest_in w) _ h.cut (listed-in_order q u)

    left : HasAt q.index (shown_in w) k None (without (entry q.index (k, t)) (shown_in w))
    unfolding parts
    left = left_here q.index k (entry q.index (k, t)) refl (shown_in w) parts.shown here

    says : turned.was ≡ is_some (value_at (shown_in w) k)
    unfolding parts
    says = was ∙ found_says q.index k t (shown_in w) parts.shown here

    nothing : value_at (without (entry q.index (k, t)) (shown_in w)) k ≡ None
    nothing = left.value k ∙ ap (λ b. cond b None (value_at (shown_in w) k)) (key_eq-same k)

    -- what stood there is the child, where it was shown
    stood : (o : Option PathTree) → value_at (shown_in w) k ≡ o → (b : Bool) → b ≡ is_some o → cond b (Some t) None ≡ o
    stood None g b e = ap (λ c. cond c (Some t) None) e
    stood (Some x) g b e =
        let same : Some t ≡ Some x = sym is ∙ (shown_known q u w k x h g).0 in
        ap (λ c. cond c (Some t) None) e ∙ same

    leaves_of : (crossed : Option (Key × PathTree)) → Refilled crossed (rest_in w) (without (entry q.index (k, t)) (shown_in w)) after → IfSome crossed (λ c. turned.was ≡ true)
        → Leaves q k (Some t) new turned.was crossed (shown_in w) after
    leaves_of None r first =
        let gone : value_at after k ≡ None = ap (λ (fs : Entries). value_at fs k) r ∙ nothing in
        record {
          own = ap (cond turned.was (Some t)) gone ∙ stood (value_at (shown_in w) k) refl turned.was says;
          stands = λ x g. cc (gone, g);
          apart = tt;
          others = λ j e. ap (λ (fs : Entries). value_at fs j) r ∙ left.value j ∙ ap (λ b. cond b None (value_at (shown_in w) j)) e;
        }
    leaves_of (Some c) r first =
        let e : Entry = r.0 in
        let found = found_at q.index e c.1 (rest_in w) parts.rest r.2 in
        let there : value_at (rest_in w) c.0 ≡ Some c.1 = ap (value_at (rest_in w)) (sym r.1) ∙ found.0 in
        let own : e ≡ entry q.index (c.0, c.1) = found.1 ∙ ap (λ (i : Key). entry q.index (i, c.1)) r.1 in
        let unshown : value_at (shown_in w) c.0 ≡ None = parts.apart c.0 c.1 there in
        let full : is_some (value_at (shown_in w) k) ≡ true = sym says ∙ first in
        let other : key_eq k c.0 ≡ false = differ (value_at (shown_in w) k) full unshown in
        let unleft : value_at (without (entry q.index (k, t)) (shown_in w)) c.0 ≡ None = left.value c.0 ∙ ap (λ b. cond b None (value_at (shown_in w) c.0)) other ∙ unshown in
        let put = put_here q.index c.0 c.1 (without (entry q.index (k, t)) (shown_in w)) left.listed (no_value q.index c.0 (entry q.index (c.0, c.1)) (without (entry q.index (k, t)) (shown_in w)) unleft) in
        let now : (j : Key) → value_at after j ≡ cond (key_eq c.0 j) (Some c.1) (value_at (without (entry q.index (k, t)) (shown_in w)) j) =
        λ j. ap (λ (fs : Entries). value_at fs j) (r.3 ∙ ap (λ (x : Entry). map_of.put entry_cmp x c.1 (without (entry q.index (k, t)) (shown_in w))) own) ∙ put.value j in
        let gone : value_at after k ≡ None = now k ∙ ap (λ b. cond b (Some c.1) (value_at (without (entry q.index (k, t)) (shown_in w)) k)) (key_eq-symm c.0 k ∙ other) ∙ nothing in
        record {
          own = ap (cond turned.was (Some t)) gone ∙ stood (value_at (shown_in w) k) refl turned.was says;
          stands = λ x g. cc (gone, g);
          apart = (unshown, other);
          others = λ j e. now j ∙ ap (cond (key_eq c.0 j) (Some c.1)) (left.value j ∙ ap (λ b. cond b None (value_at (shown_in w) j)) e);
        }
      where
        differ : (o : Option PathTree) → is_some (value_at (shown_in w) k) ≡ true → value_at (shown_in w) c.0 ≡ None → key_eq k c.0 ≡ false
        differ o full none = elim (key_eq k c.0) as (λ b. key_eq k c.0 ≡ b → b ≡ false) [
          | true ↦ λ e. cc (full, ap is_some (ap (value_at (shown_in w)) (key_eq-is k c.0 e) ∙ none))
          | false ↦ λ e. refl
        ] refl

    pub leaves_taken : Leaves q k (Some t) new turned.was turned.crossed (shown_in w) after
    leaves_taken = leaves_of turned.crossed refills.0 refills.1

-- ---- the window without the child

-- what is shown once a child was taken out is listed
pub listed_left : (q : Query) (t : PathTree) (k : Key) (o : Option PathTree) (v : PathTree) (a b : OrderedChildren) → IsWindowOf q t a
    → IsWindow a.limit (shown_in b) (rest_in b) (left_by q k o v (joined a.limit (shown_in a) (rest_in a))) → IsListed q.index (shown_in b)
listed_left q t k o v a b h cut =
    let whole : joined a.limit (shown_in a) (rest_in a) ≡ in_order q (children_of t) = ap (λ l. joined l (shown_in a) (rest_in a)) h.limit ∙ h.cut.whole in
    (parted q.index a.limit (shown_in b) (rest_in b) _ cut (subst (λ es. IsListed q.index (left_by q k o v es)) (sym whole) (left o (in_order q (children_of t)) (listed-in_order q t)))).shown
  where
    left : (o : Option PathTree) (es : Entries) → IsListed q.index es → IsListed q.index (left_by q k o v es)
    left None es g = g
    left (Some x) es g =
        elim (takes_place q.index x v) as (λ b. IsListed q.index (cond b es (taken_out q k (Some x) es))) [
          | true ↦ g
          | false ↦ elim (has q.range (entry q.index (k, x))) as (λ b. IsListed q.index (cond b (without (entry q.index (k, x)) es) es)) [
            | true ↦ listed-filter (λ y. not (eq_by_cmp entry_cmp (entry q.index (k, x)) y)) q.index es g
            | false ↦ g
          ]
        ]
