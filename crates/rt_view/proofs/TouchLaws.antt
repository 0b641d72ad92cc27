-- A child that is put into a tree, in the order of the tree's children.
use Rattle.std.specs.Prelude.{T}
use Rattle.std.proofs.Common.{◌≡◌, Bool, true, false, cond, not, ◌&&◌, ◌||◌, List, [], ◌∷◌, ◌++◌, refl, sym, ap, subst, ◌∙◌, arith, ◌≤◌, Option, Some, None}
use Rattle.std.specs.Ordering.{is_eq, eq_by_cmp}
use Rattle.std.specs.Cmp.{tied_itself, Equal-is}
use Rattle.std.proofs.lemmas.List.Folds.{list_any-append}
use Rattle.std.specs.FinMap as map_of
use Rattle.std.specs.FinMap.Entries.{is_sorted}
use Rattle.rt_tree.specs.Allowed.{IsAllowed}
use Rattle.rt_tree.specs.PathTree.{Key, PathTree, leaf_at-sub, levels, levels_le, key_eq, key_eq-is, key_eq-same, key_eq-symm, child, child_of, is_null, non_null, put}
use Rattle.rt_tree.specs.Children.{children_of, child_of-children_of}
use Rattle.rt_tree.specs.Parts.{child-put, child-put_other}
use Rattle.rt_order.specs.Entries.{Entry, entry, entry_cmp, sort_value}
use Rattle.rt_order.specs.declared.index.Index.{Index}
use Rattle.rt_order.specs.Cuts.{has}
use Rattle.rt_order.specs.laws.EntryOrder.{entry_cmp_total, value_cmp-IsAntisymmetric}
use Rattle.rt_order.specs.Values.{value_cmp}
use Rattle.rt_query.specs.Queries.{Query}
use Rattle.rt_view.specs.inside.Windows.{Entries, value_at, without}
use Rattle.rt_view.specs.inside.ViewIndex.{in_order, put_in, brought_in, taken_out, is_noted}
use Rattle.rt_view.proofs.Listed.{IsListed, same_listed, passing, apart_keys, listed-filter, value_at-filter, listed-puts, value_at-puts_all, listed-in_order, value_at-in_order}
use Rattle.rt_view.specs.inside.Telling.{left_by, takes_place}
use Rattle.rt_view.proofs.WindowLaws.{puts-without}

-- the children of a tree with one put in its place
pub child_of-put : (t : PathTree) (k j : Key) (u : PathTree) → child_of (children_of (put t (k ∷ []) u)) j ≡ cond (key_eq k j) (non_null u) (child_of (children_of t) j)
child_of-put t k j u =
    child_of-children_of (put t (k ∷ []) u) j ∙ elim (key_eq k j) as (λ b. key_eq k j ≡ b → non_null (child (put t (k ∷ []) u) j) ≡ cond b (non_null u) (child_of (children_of t) j)) [
      | true ↦ λ e. ap (λ (i : Key). non_null (child (put t (k ∷ []) u) i)) (sym (key_eq-is k j e)) ∙ ap non_null (child-put t k u)
      | false ↦ λ e. ap non_null (child-put_other t k j u e) ∙ sym (child_of-children_of t j)
    ] refl

-- entries of which one key's is another one, or gone
pub record HasAt (index : Index) (es : Entries) (k : Key) (o : Option PathTree) (fs : Entries) : Type 0 where
  pub listed : IsListed index fs
  pub value : (j : Key) → value_at fs j ≡ cond (key_eq k j) o (value_at es j)

-- what is as it was
pub as_it_was : (index : Index) (es : Entries) (k : Key) (o : Option PathTree) → IsListed index es → value_at es k ≡ o → HasAt index es k o es
as_it_was index es k o h is = record {
  listed = h;
  value = λ j. elim (key_eq k j) as (λ b. key_eq k j ≡ b → value_at es j ≡ cond b o (value_at es j)) [
    | true ↦ λ e. ap (value_at es) (sym (key_eq-is k j e)) ∙ is
    | false ↦ λ e. refl
  ] refl;
}

-- what stands under a key stands at this entry, if anything does
abbrev pub StandsAt : Index → Key → Entry → Entries → Type 0
StandsAt index k e es = (x : PathTree) → value_at es k ≡ Some x → entry index (k, x) ≡ e

module _ (index : Index) (k : Key) (e : Entry) (own : e.1 ≡ k) where
  gone_there : (o : Option PathTree) → ((x : PathTree) → o ≡ Some x → entry index (k, x) ≡ e) → passing (λ x. not (eq_by_cmp entry_cmp e x)) index k o ≡ None
  gone_there None g = refl
  gone_there (Some x) g =
      ap (λ (z : Entry). cond (not (eq_by_cmp entry_cmp e z)) (Some x) None) (g x refl)
      ∙ ap (λ o. cond (not (is_eq o)) (Some x) None) (tied_itself entry_cmp_total e)

  still_there : (j : Key) (o : Option PathTree) → key_eq k j ≡ false → passing (λ x. not (eq_by_cmp entry_cmp e x)) index j o ≡ o
  still_there j None n = refl
  still_there j (Some v) n =
      ap (λ b. cond (not b) (Some v) None) (apart_keys e (entry index (j, v)) (ap (key_eq j) own ∙ key_eq-symm j k ∙ n))

  pub left_here : (es : Entries) → IsListed index es → StandsAt index k e es → HasAt index es k None (without e es)
  left_here es h stands = record {
    listed = listed-filter (λ x. not (eq_by_cmp entry_cmp e x)) index es h;
    value = λ j. value_at-filter (λ x. not (eq_by_cmp entry_cmp e x)) index es h j ∙ at j;
  }
    where
      at : (j : Key) → passing (λ x. not (eq_by_cmp entry_cmp e x)) index j (value_at es j) ≡ cond (key_eq k j) None (value_at es j)
      at j = elim (key_eq k j) as (λ b. key_eq k j ≡ b → passing (λ x. not (eq_by_cmp entry_cmp e x)) index j (value_at es j) ≡ cond b None (value_at es j)) [
        | true ↦ λ s.
            let same = key_eq-is k j s in
            ap (λ (i : Key). passing (λ x. not (eq_by_cmp entry_cmp e x)) index i (value_at es i)) (sym same) ∙ gone_there (value_at es k) stands
        | false ↦ λ s. still_there j (value_at es j) s
      ] refl

pub taken_here : (index : Index) (k : Key) (t : PathTree) (es : Entries) → IsListed index es → value_at es k ≡ Some t → HasAt index es k None (without (entry index (k, t)) es)
taken_here index k t es h is = left_here index k (entry index (k, t)) refl es h (λ x g. let same : x ≡ t = cc in ap (λ (y : PathTree). entry index (k, y)) same)

-- a child that is taken out
pub taken_at_key : (q : Query) (k : Key) (o : Option PathTree) (es : Entries) → IsListed q.index es → value_at es k ≡ passing (has q.range) q.index k o → HasAt q.index es k None (taken_out q k o es)
taken_at_key q k None es h is = as_it_was q.index es k None h is
taken_at_key q k (Some t) es h is =
    elim (has q.range (entry q.index (k, t))) as (λ b. value_at es k ≡ cond b (Some t) None → HasAt q.index es k None (cond b (without (entry q.index (k, t)) es) es)) [
      | true ↦ λ e. taken_here q.index k t es h e
      | false ↦ λ e. as_it_was q.index es k None h e
    ] is

-- a child that is brought in where there is none
pub brought_at_key : (q : Query) (k : Key) (u : PathTree) (es : Entries) → IsListed q.index es → value_at es k ≡ None → HasAt q.index es k (passing (has q.range) q.index k (non_null u)) (brought_in q k u es)
brought_at_key q k u es h none =
    elim (is_null u) as (λ n. HasAt q.index es k (passing (has q.range) q.index k (cond n None (Some u))) (cond n es (put_in q (k, u) es))) [
      | true ↦ as_it_was q.index es k None h none
      | false ↦ elim (has q.range (entry q.index (k, u))) as (λ b. HasAt q.index es k (cond b (Some u) None) (cond b (map_of.put entry_cmp (entry q.index (k, u)) u es) es)) [
        | true ↦ record { listed = listed-puts q.index k u es h none; value = value_at-puts_all q.index k u es none }
        | false ↦ as_it_was q.index es k None h none
      ]
    ]

pub cond_twice : (b : Bool) (x y z : Option PathTree) → cond b x (cond b y z) ≡ cond b x z
cond_twice true x y z = refl
cond_twice false x y z = refl

-- the children in the range, in order, of a tree with one child put in its place
pub touched_order : (q : Query) (t : PathTree) (k : Key) (u : PathTree)
    → brought_in q k u (taken_out q k (child_of (children_of t) k) (in_order q (children_of t))) ≡ in_order q (children_of (put t (k ∷ []) u))
touched_order q t k u =
    let all = in_order q (children_of t) in
    let o = child_of (children_of t) k in
    let taken = taken_at_key q k o all (listed-in_order q t) (value_at-in_order q t k) in
    let none : value_at (taken_out q k o all) k ≡ None = taken.value k ∙ ap (λ b. cond b None (value_at all k)) (key_eq-same k) in
    let brought = brought_at_key q k u (taken_out q k o all) taken.listed none in
    same_listed q.index _ _ brought.listed (listed-in_order q (put t (k ∷ []) u))
    (λ j. brought.value j ∙ ap (cond (key_eq k j) (passing (has q.range) q.index k (non_null u))) (taken.value j)
    ∙ cond_twice (key_eq k j) (passing (has q.range) q.index k (non_null u)) None (value_at all j)
    ∙ elim (key_eq k j) as (λ b. key_eq k j ≡ b → cond b (passing (has q.range) q.index k (non_null u)) (value_at all j) ≡ passing (has q.range) q.index j (cond b (non_null u) (child_of (children_of t) j))) [
      | true ↦ λ e. ap (λ (i : Key). passing (has q.range) q.index i (non_null u)) (key_eq-is k j e)
      | false ↦ λ e. value_at-in_order q t j
    ] refl
    ∙ ap (passing (has q.range) q.index j) (sym (child_of-put t k j u))
    ∙ sym (value_at-in_order q (put t (k ∷ []) u) j))

-- ---- a child that is shown

-- ---- notes

pub is_noted-push : (ks : List Key) (j k : Key) → is_noted (ks ++ j ∷ []) k ≡ (is_noted ks k || (key_eq j k || false))
is_noted-push ks j k = list_any-append (λ i. key_eq i k) ks (j ∷ [])

-- ---- what the calls keep

-- a child is not null, and fits below a key
pub child_fits : (t : PathTree) (k : Key) (v : PathTree) → IsAllowed t → child_of (children_of t) k ≡ Some v → (is_null v ≡ false) × (levels v ≤ 32)
child_fits t k v allowed e = at (is_null (child t k)) refl (sym (child_of-children_of t k) ∙ e)
  where
    at : (b : Bool) → is_null (child t k) ≡ b → cond b None (Some (child t k)) ≡ Some v → (is_null v ≡ false) × (levels v ≤ 32)
    at true s g = cc
    at false s g =
        let same : child t k ≡ v = cc in
        let low : levels (child t k) ≤ 32 = levels_le (child t k) 32 (λ q l f. omega (arith, (allowed (k ∷ q) l (sym (leaf_at-sub t (k ∷ []) q) ∙ f)).0.short)) in
        subst (λ x. (is_null x ≡ false) × (levels x ≤ 32)) same (s, low)

-- a child that takes the place of another one needs no room made for it
pub left_same : (q : Query) (k : Key) (o : Option PathTree) (u : PathTree) (es : Entries) → T (is_sorted entry_cmp es) → brought_in q k u (left_by q k o u es) ≡ brought_in q k u (taken_out q k o es)
left_same q k None u es up = refl
left_same q k (Some t) u es up =
    elim (takes_place q.index t u) as (λ b. takes_place q.index t u ≡ b → brought_in q k u (cond b es (taken_out q k (Some t) es)) ≡ brought_in q k u (taken_out q k (Some t) es)) [
      | true ↦ λ e. here (is_null u) (is_eq (value_cmp (sort_value q.index t) (sort_value q.index u))) refl refl e
      | false ↦ λ e. refl
    ] refl
  where
    there : (b : Bool) → has q.range (entry q.index (k, u)) ≡ b
        → cond b (map_of.put entry_cmp (entry q.index (k, u)) u es) es ≡ cond b (map_of.put entry_cmp (entry q.index (k, u)) u (cond b (without (entry q.index (k, u)) es) es)) (cond b (without (entry q.index (k, u)) es) es)
    there true e = sym (puts-without (entry q.index (k, u)) u es up)
    there false e = refl

    placed : entry q.index (k, t) ≡ entry q.index (k, u) → put_in q (k, u) es ≡ put_in q (k, u) (taken_out q k (Some t) es)
    placed same =
        there (has q.range (entry q.index (k, u))) refl
        ∙ ap (λ (e : Entry). put_in q (k, u) (cond (has q.range e) (without e es) es)) (sym same)

    here : (n s : Bool) → is_null u ≡ n → is_eq (value_cmp (sort_value q.index t) (sort_value q.index u)) ≡ s → (not n && s) ≡ true → cond n es (put_in q (k, u) es) ≡ cond n (taken_out q k (Some t) es) (put_in q (k, u) (taken_out q k (Some t) es))
    here true s null tie e = cc
    here false false null tie e = cc
    here false true null tie e = placed (λ i. (value_cmp-IsAntisymmetric (sort_value q.index t) (sort_value q.index u) ((Equal-is (value_cmp (sort_value q.index t) (sort_value q.index u))).0 tie) i, k))
