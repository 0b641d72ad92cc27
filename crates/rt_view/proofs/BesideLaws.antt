-- All children that are known, and those beside the range.
use Rattle.std.specs.Prelude.{T}
use Rattle.std.proofs.Common.{◌≡◌, ℕ, true, false, cond, not, [], ◌∷◌, ◌++◌, refl, sym, ap, subst, ◌∙◌, Option, Some, is_some}
use Rattle.std.specs.List.{AllByRecursion, filter}
use Rattle.std.specs.FinMap as map_of
use Rattle.std.specs.FinMap.Entries.{is_sorted}
use Rattle.std.specs.Map.{lookup, remove_entry}
use Rattle.std.specs.BTreeMap.{is_at}
use Rattle.std.specs.Ordering.{eq_by_cmp}
use Rattle.rt_chain.specs.declared.chain.Half.{Half}
use Rattle.rt_chain.specs.declared.chain.Half.TheVariants.{Front, Behind}
use Rattle.rt_tree.specs.PathTree.{Key, PathTree, child_of, put}
use Rattle.rt_tree.specs.Children.{children_of}
use Rattle.rt_order.specs.declared.cut.Range.{Range}
use Rattle.rt_order.specs.Cuts.{has}
use Rattle.rt_order.specs.Entries.{Entry, entry, entry_cmp}
use Rattle.rt_query.specs.declared.query.Limit.{Limit}
use Rattle.rt_query.specs.Queries.{Query}
use Rattle.rt_query.specs.Select.{sorted_by}
use Rattle.rt_view.specs.inside.ViewIndex.{IsWindowOf, brought_in, in_order, taken_out, wholly}
use Rattle.rt_view.specs.inside.Ranged.{Halved, OrderedChildren, inner, inside}
use Rattle.rt_view.specs.inside.Telling.{left_by, takes_place}
use Rattle.rt_view.specs.inside.Windows.{Becomes, Entries, IsWhole, IsWindow, all_of, half_in, half_of, is_over, is_there, joined, known_in, put_inside, rest_from, rest_in, shown_from, shown_in, without}
use Rattle.rt_view.proofs.HalfLaws.{has_both}
use Rattle.rt_view.proofs.Listed.{listed-in_order}
use Rattle.rt_view.proofs.TouchLaws.{left_same, touched_order}
use Rattle.rt_view.proofs.WindowLaws.{remove_entry-without, same_entry}

-- ---- what lies in the range

abbrev pub Inside : Range → Entries → Type 0
Inside r es = AllByRecursion (λ x. has r x.0 ≡ true) es

pub is_inside : (r : Range) (es : Entries) → Inside r (inside r es)
is_inside r [] = tt
is_inside r (x ∷ es) =
    elim (has r x.0) as (λ b. has r x.0 ≡ b → Inside r (cond b (x ∷ inside r es) (inside r es))) [
      | true ↦ λ h. (h, is_inside r es)
      | false ↦ λ h. is_inside r es
    ] refl

inside_both : (r : Range) (es ds : Entries) → Inside r es → Inside r ds → Inside r (es ++ ds)
inside_both r [] ds h g = g
inside_both r (x ∷ es) ds h g = (h.0, inside_both r es ds h.1 g)

-- what a window has in its range
pub all_inside : (w : OrderedChildren) → Inside w.children.range (all_of w)
all_inside w =
    subst (Inside w.children.range) (sym (has_both w.limit (inner w.children)))
    (inside_both w.children.range _ _ (is_inside w.children.range w.children.halves.0) (is_inside w.children.range w.children.halves.1))

module _ (r : Range) (e : Entry) (beside : has r e ≡ false) where
  other_entry : (x : Entry) → has r x ≡ true → eq_by_cmp entry_cmp e x ≡ false
  other_entry x h = elim (eq_by_cmp entry_cmp e x) as (λ b. eq_by_cmp entry_cmp e x ≡ b → b ≡ false) [
    | true ↦ λ t. let same : e ≡ x = same_entry e x t in cc (beside, h, ap (has r) same)
    | false ↦ λ t. refl
  ] refl

  pub without-beside : (es : Entries) → Inside r es → without e es ≡ es
  without-beside [] h = refl
  without-beside (x ∷ es) h =
      ap (λ b. cond (not b) (x ∷ without e es) (without e es)) (other_entry x.0 h.0) ∙ ap (λ (xs : Entries). x ∷ xs) (without-beside es h.1)

  pub there-beside : (es : Entries) → Inside r es → is_there e es ≡ false
  there-beside [] h = refl
  there-beside (x ∷ es) h = ap (λ b. is_some (cond b (Some x.1) (lookup (is_at (entry_cmp e)) es))) (other_entry x.0 h.0) ∙ there-beside es h.1

-- what a window shows
pub there_beside : (w : OrderedChildren) (e : Entry) → has w.children.range e ≡ false → is_there e (shown_in w) ≡ false
there_beside w e beside = at (half_of w.limit)
  where
    at : (h : Half) → is_there e (half_in h (inner w.children)) ≡ false
    at Front = there-beside w.children.range e beside _ (is_inside w.children.range w.children.halves.0)
    at Behind = there-beside w.children.range e beside _ (is_inside w.children.range w.children.halves.1)

pub inside_is : (r : Range) (e : Entry) (v : PathTree) (es : Entries) → has r e ≡ true → map_of.put entry_cmp e v es ≡ put_inside r e v es
inside_is r e v es h = sym (ap (λ b. cond b (map_of.put entry_cmp e v es) es) h)

-- ---- a window whose limit stays

pub shows : (m w : OrderedChildren) → w.limit ≡ m.limit → shown_from m.limit (inner w.children) ≡ shown_in w
shows m w limit = ap (λ (l : Option Limit). shown_from l (inner w.children)) (sym limit)

pub over_as : (a b : Option Limit) → b ≡ a → (x y : ℕ) → x ≡ y → is_over a x ≡ is_over b y
over_as a b same x y is = ap (λ (l : Option Limit). is_over l x) (sym same) ∙ ap (is_over b) is

pub becomes : (m w : OrderedChildren) (es all : Entries) → w.limit ≡ m.limit → es ≡ all → IsWindow m.limit (shown_from m.limit (inner w.children)) (rest_from m.limit (inner w.children)) es → Becomes m w all
becomes m w es all limit same is =
    subst (IsWindow m.limit (shown_in w) (rest_in w)) same (subst (λ (l : Option Limit). IsWindow m.limit (shown_from l (inner w.children)) (rest_from l (inner w.children)) es) (sym limit) is)

-- a child was put beside the range
pub stays_beside : (m w : OrderedChildren) (e : Entry) (v : PathTree) → w.limit ≡ m.limit → inner w.children ≡ inner m.children → has m.children.range e ≡ false → IsWhole m → Becomes m w (put_inside m.children.range e v (all_of m))
stays_beside m w e v limit same beside whole =
    becomes m w (all_of m) _ limit (sym (ap (λ b. cond b (map_of.put entry_cmp e v (all_of m)) (all_of m)) beside))
    (subst (λ (c : Halved). IsWindow m.limit (shown_from m.limit c) (rest_from m.limit c) (all_of m)) (sym same) whole)

-- taken out by its key, where another one doesn't take its place
pub left_taken : (q : Query) (k : Key) (o : Option PathTree) (t new : PathTree) (w : OrderedChildren) → w.children.range ≡ q.range → o ≡ Some t → takes_place q.index t new ≡ false
    → without (entry q.index (k, t)) (all_of w) ≡ left_by q k o new (all_of w)
left_taken q k o t new w range is takes =
    let e : Entry = entry q.index (k, t) in
    elim (has q.range e) as (λ b. has q.range e ≡ b → without e (all_of w) ≡ cond b (without e (all_of w)) (all_of w)) [
      | true ↦ λ h. refl
      | false ↦ λ h. without-beside q.range e h (all_of w) (subst (λ r. Inside r (all_of w)) range (all_inside w))
    ] refl
    ∙ sym (ap (λ b. cond b (all_of w) (taken_out q k (Some t) (all_of w))) takes)
    ∙ sym (ap (λ x. left_by q k x new (all_of w)) is)

-- all that are known, once one was taken out
pub known_without : (e : Entry) (old new : OrderedChildren) → T (is_sorted entry_cmp (known_in old)) → known_in new ≡ remove_entry (is_at (entry_cmp e)) (known_in old) → known_in new ≡ without e (known_in old)
known_without e old new up taken = taken ∙ remove_entry-without e (known_in old) up

-- ---- all children in order

pub in_whole : (q : Query) (es : Entries) → filter (λ e. has (wholly q).range e.0) es ≡ es
in_whole q [] = refl
in_whole q (e ∷ es) = ap (λ (xs : Entries). e ∷ xs) (in_whole q es)

-- once a child was taken out and another one brought in, the known children are those of the tree
pub touched_known : (q : Query) (t u : PathTree) (k : Key) (v : PathTree) (o : Option PathTree) (a b c : Entries) → a ≡ sorted_by q.index (children_of t) → o ≡ child_of (children_of t) k
    → b ≡ left_by (wholly q) k o v a → c ≡ brought_in (wholly q) k v b → u ≡ put t (k ∷ []) v → c ≡ sorted_by q.index (children_of u)
touched_known q t u k v o a b c h is left brought e =
    let all : a ≡ in_order (wholly q) (children_of t) = h ∙ sym (in_whole q (sorted_by q.index (children_of t))) in
    brought ∙ ap (brought_in (wholly q) k v) (left ∙ (λ i. left_by (wholly q) k (is i) v (all i)))
    ∙ left_same (wholly q) k (child_of (children_of t) k) v (in_order (wholly q) (children_of t)) (listed-in_order (wholly q) t).rises
    ∙ touched_order (wholly q) t k v ∙ ap (λ (x : PathTree). in_order (wholly q) (children_of x)) (sym e) ∙ in_whole q (sorted_by q.index (children_of u))

-- ---- the window after a child was taken out and another one brought in

pub record TakenOut (q : Query) (k : Key) (o : Option PathTree) (v : PathTree) (a b : OrderedChildren) : Type 0 where
  pub limit : b.limit ≡ a.limit
  pub range : b.children.range ≡ a.children.range
  pub known : known_in b ≡ left_by (wholly q) k o v (known_in a)
  pub cut : IsWindow a.limit (shown_in b) (rest_in b) (left_by q k o v (joined a.limit (shown_in a) (rest_in a)))

pub record BroughtIn (q : Query) (k : Key) (v : PathTree) (b c : OrderedChildren) : Type 0 where
  pub limit : c.limit ≡ b.limit
  pub range : c.children.range ≡ b.children.range
  pub known : known_in c ≡ brought_in (wholly q) k v (known_in b)
  pub cut : IsWindow b.limit (shown_in c) (rest_in c) (brought_in q k v (joined b.limit (shown_in b) (rest_in b)))

pub touched_window : (q : Query) (t u : PathTree) (k : Key) (v : PathTree) (o : Option PathTree) (a b c : OrderedChildren) → IsWindowOf q t a → o ≡ child_of (children_of t) k
    → TakenOut q k o v a b → BroughtIn q k v b c → u ≡ put t (k ∷ []) v → IsWindowOf q u c
touched_window q t u k v o a b c h is left brought e =
    let whole_a : joined a.limit (shown_in a) (rest_in a) ≡ in_order q (children_of t) = ap (λ l. joined l (shown_in a) (rest_in a)) h.limit ∙ h.cut.whole in
    let whole_b : joined b.limit (shown_in b) (rest_in b) ≡ left_by q k (child_of (children_of t) k) v (in_order q (children_of t)) =
    ap (λ l. joined l (shown_in b) (rest_in b)) left.limit ∙ left.cut.whole ∙ (λ i. left_by q k (is i) v (whole_a i)) in
    let all : brought_in q k v (joined b.limit (shown_in b) (rest_in b)) ≡ in_order q (children_of u) =
    ap (brought_in q k v) whole_b ∙ left_same q k (child_of (children_of t) k) v (in_order q (children_of t)) h.cut.rises ∙ touched_order q t k v ∙ ap (λ (x : PathTree). in_order q (children_of x)) (sym e) in
    record {
      limit = brought.limit ∙ left.limit ∙ h.limit;
      range = brought.range ∙ left.range ∙ h.range;
      all = touched_known q t u k v o (known_in a) (known_in b) (known_in c) h.all is left.known brought.known e;
      cut = subst (λ l. IsWindow l (shown_in c) (rest_in c) (in_order q (children_of u))) (left.limit ∙ h.limit) (subst (λ es. IsWindow b.limit (shown_in c) (rest_in c) es) all brought.cut);
    }
