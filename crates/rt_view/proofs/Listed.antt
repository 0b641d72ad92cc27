-- Entries of children in order: each child stands at its own entry, and no key stands twice. What such a list holds under each
-- key says all of it.
use Rattle.std.proofs.Common.{◌≡◌, ◌-◌, Bool, true, false, cond, List, [], ◌∷◌, ◌++◌, append-nil, drop, length, map, take, refl, sym, ap, subst, ◌∙◌, Option, Some, None}
use Rattle.std.specs.declared.cmp.Ordering.TheVariants.{Less, Equal, Greater}
use Rattle.std.specs.Ordering.{is_eq, eq_by_cmp}
use Rattle.std.specs.Cmp.{tied_itself}
use Rattle.std.specs.Map.{keys_of}
use Rattle.std.specs.List.{AllByRecursion, filter}
use Rattle.std.specs.List.Sorted.{IsStrictlySortedBy}
use Rattle.std.proofs.lemmas.List.{take-append-drop}
use Rattle.std.specs.FinMap as map_of
use Rattle.std.specs.FinMap.Entries.{by_order, find, is_sorted-put, is_sorted-where_key, find-put, same_entries}
use Rattle.rt_tree.specs.PathTree.{Key, PathTree, key_cmp, key_eq, key_eq-is, key_eq-same, key_eq-symm, child_of}
use Rattle.rt_tree.specs.Children.{children_of, children_sorted}
use Rattle.rt_order.specs.Entries.{Entry, entry, entry_cmp}
use Rattle.rt_order.specs.declared.index.Index.{Index}
use Rattle.rt_order.specs.Cuts.{has}
use Rattle.rt_order.specs.laws.EntryOrder.{entry_cmp_total, entry_cmp-IsAntisymmetric}
use Rattle.rt_query.specs.declared.query.Limit.{Limit}
use Rattle.rt_query.specs.declared.query.Limit.TheVariants.{First, Last}
use Rattle.rt_query.specs.Queries.{Query}
use Rattle.rt_query.specs.Select.{limited, sorted_by, row_of}
use Rattle.rt_view.specs.inside.Windows.{Entries, IsWindow, joined, shown_in, value_at}
pub use Rattle.rt_view.specs.inside.Windows.{IsListed, Once, Own}
use Rattle.rt_view.specs.inside.ViewIndex.{IsWindowOf, entries_shown, in_order}
use Rattle.rt_view.proofs.ReplayLaws.{row_at-cons}
use Rattle.rt_view.specs.inside.Ranged.{OrderedChildren}
use Rattle.rt_view.proofs.WindowLaws.{parts_rise, value_at-skip, value_at-puts, same_entry}

abbrev puts : Entry → PathTree → Entries → Entries
puts e v es = map_of.put entry_cmp e v es

pub value_at-cons : (x : Entry × PathTree) (es : Entries) (k : Key) → value_at (x ∷ es) k ≡ cond (key_eq x.0.1 k) (Some x.1) (value_at es k)
value_at-cons x es k = row_at-cons (row_of x) (map row_of es) k

-- ---- found by entry

-- entries with different keys differ
pub apart_keys : (e x : Entry) → key_eq x.1 e.1 ≡ false → eq_by_cmp entry_cmp e x ≡ false
apart_keys e x h =
    elim (eq_by_cmp entry_cmp e x) as (λ b. eq_by_cmp entry_cmp e x ≡ b → b ≡ false) [
      | true ↦ λ t. cc (h, ap (λ (z : Entry). key_eq x.1 z.1) (same_entry e x t), key_eq-same x.1)
      | false ↦ λ t. refl
    ] refl

-- a value that stands at an entry of its own
abbrev pub at_entry : Index → Entry → Option PathTree → Option PathTree
at_entry index e None = None
at_entry index e (Some v) = cond (eq_by_cmp entry_cmp e (entry index (e.1, v))) (Some v) None

pub find-value_at : (index : Index) (es : Entries) → Own index es → Once es → (e : Entry) → find entry_cmp e es ≡ at_entry index e (value_at es e.1)
find-value_at index [] own once e = refl
find-value_at index (x ∷ es) own once e =
    elim (key_eq x.0.1 e.1) as (λ b. key_eq x.0.1 e.1 ≡ b → cond (eq_by_cmp entry_cmp e x.0) (Some x.1) (find entry_cmp e es) ≡ at_entry index e (cond b (Some x.1) (value_at es e.1))) [
      | true ↦ λ t.
          let same : x.0.1 ≡ e.1 = key_eq-is x.0.1 e.1 t in
          let here : x.0 ≡ entry index (e.1, x.1) = own.0 ∙ ap (λ (k : Key). entry index (k, x.1)) same in
          let none : value_at es e.1 ≡ None = ap (value_at es) (sym same) ∙ once.0 in
          ap (cond (eq_by_cmp entry_cmp e x.0) (Some x.1)) (find-value_at index es own.1 once.1 e ∙ ap (at_entry index e) none)
          ∙ ap (λ (z : Entry). cond (eq_by_cmp entry_cmp e z) (Some x.1) None) here
      | false ↦ λ t. ap (λ b. cond b (Some x.1) (find entry_cmp e es)) (apart_keys e x.0 t) ∙ find-value_at index es own.1 once.1 e
    ] refl ∙ ap (at_entry index e) (sym (value_at-cons x es e.1))

-- the values under all keys say which list it is
pub same_listed : (index : Index) (es fs : Entries) → IsListed index es → IsListed index fs → ((k : Key) → value_at es k ≡ value_at fs k) → es ≡ fs
same_listed index es fs h g same =
    same_entries entry_cmp entry_cmp_total entry_cmp-IsAntisymmetric es fs h.rises g.rises
    (λ e. find-value_at index es h.own h.once e ∙ ap (at_entry index e) (same e.1) ∙ sym (find-value_at index fs g.own g.once e))

-- ---- some of them

pub none_head : (x : Entry × PathTree) (es : Entries) (k : Key) → value_at (x ∷ es) k ≡ None → (key_eq x.0.1 k ≡ false) × (value_at es k ≡ None)
none_head x es k h =
    elim (key_eq x.0.1 k) as (λ b. cond b (Some x.1) (value_at es k) ≡ None → (b ≡ false) × (value_at es k ≡ None)) [
      | true ↦ λ g. cc
      | false ↦ λ g. (refl, g)
    ] (sym (value_at-cons x es k) ∙ h)

-- a value, where its entry passes
abbrev pub passing : (Entry → Bool) → Index → Key → Option PathTree → Option PathTree
passing p index k None = None
passing p index k (Some v) = cond (p (entry index (k, v))) (Some v) None

module _ (p : Entry → Bool) where
  those : Entries → Entries
  those es = filter (λ e. p e.0) es

  none_those : (es : Entries) (k : Key) → value_at es k ≡ None → value_at (those es) k ≡ None
  unfolding those
  none_those [] k h = h
  none_those (x ∷ es) k h =
      let parts = none_head x es k h in
      elim (p x.0) as (λ c. value_at (cond c (x ∷ those es) (those es)) k ≡ None) [
        | true ↦ value_at-skip x (those es) k parts.0 ∙ none_those es k parts.1
        | false ↦ none_those es k parts.1
      ]

  value_at-those : (index : Index) (es : Entries) → Own index es → Once es → (k : Key) → value_at (those es) k ≡ passing p index k (value_at es k)
  unfolding those
  value_at-those index [] own once k = refl
  value_at-those index (x ∷ es) own once k =
      elim (key_eq x.0.1 k) as (λ b. key_eq x.0.1 k ≡ b → value_at (those (x ∷ es)) k ≡ passing p index k (cond b (Some x.1) (value_at es k))) [
        | true ↦ λ t.
            let same : x.0.1 ≡ k = key_eq-is x.0.1 k t in
            let here : x.0 ≡ entry index (k, x.1) = own.0 ∙ ap (λ (j : Key). entry index (j, x.1)) same in
            let none : value_at es k ≡ None = ap (value_at es) (sym same) ∙ once.0 in
            elim (p x.0) as (λ c. p x.0 ≡ c → value_at (cond c (x ∷ those es) (those es)) k ≡ passing p index k (Some x.1)) [
              | true ↦ λ s. value_at-cons x (those es) k ∙ ap (λ b. cond b (Some x.1) (value_at (those es) k)) t ∙ sym (ap (λ b. cond b (Some x.1) None) (ap p (sym here) ∙ s))
              | false ↦ λ s. none_those es k none ∙ sym (ap (λ b. cond b (Some x.1) None) (ap p (sym here) ∙ s))
            ] refl
        | false ↦ λ t. elim (p x.0) as (λ c. value_at (cond c (x ∷ those es) (those es)) k ≡ passing p index k (value_at es k)) [
          | true ↦ value_at-skip x (those es) k t ∙ value_at-those index es own.1 once.1 k
          | false ↦ value_at-those index es own.1 once.1 k
        ]
      ] refl ∙ ap (passing p index k) (sym (value_at-cons x es k))

  own-those : (index : Index) (es : Entries) → Own index es → Own index (those es)
  unfolding those
  own-those index [] h = tt
  own-those index (x ∷ es) h =
      elim (p x.0) as (λ c. Own index (cond c (x ∷ those es) (those es))) [
        | true ↦ (h.0, own-those index es h.1)
        | false ↦ own-those index es h.1
      ]

  once-those : (es : Entries) → Once es → Once (those es)
  unfolding those
  once-those [] h = tt
  once-those (x ∷ es) h =
      elim (p x.0) as (λ c. Once (cond c (x ∷ those es) (those es))) [
        | true ↦ (none_those es x.0.1 h.0, once-those es h.1)
        | false ↦ once-those es h.1
      ]

pub listed-filter : (p : Entry → Bool) (index : Index) (es : Entries) → IsListed index es → IsListed index (filter (λ e. p e.0) es)
unfolding those
listed-filter p index es h = record {
  rises = is_sorted-where_key entry_cmp p es h.rises;
  own = own-those p index es h.own;
  once = once-those p es h.once;
}

pub value_at-filter : (p : Entry → Bool) (index : Index) (es : Entries) → IsListed index es → (k : Key) → value_at (filter (λ e. p e.0) es) k ≡ passing p index k (value_at es k)
unfolding those
value_at-filter p index es h k = value_at-those p index es h.own h.once k

-- ---- one more

pub value_at-puts_own : (e : Entry) (v : PathTree) (es : Entries) → value_at es e.1 ≡ None → value_at (puts e v es) e.1 ≡ Some v
value_at-puts_own e v [] h = value_at-cons (e, v) [] e.1 ∙ ap (λ b. cond b (Some v) None) (key_eq-same e.1)
value_at-puts_own e v (x ∷ es) h =
    elim (entry_cmp e x.0) as (λ o. entry_cmp e x.0 ≡ o → value_at (by_order o ((e, v) ∷ x ∷ es) ((x.0, v) ∷ es) (x ∷ puts e v es)) e.1 ≡ Some v) [
      | Less ↦ λ t. value_at-cons (e, v) (x ∷ es) e.1 ∙ ap (λ b. cond b (Some v) (value_at (x ∷ es) e.1)) (key_eq-same e.1)
      | Equal ↦ λ t. value_at-cons (x.0, v) es e.1 ∙ ap (λ b. cond b (Some v) (value_at es e.1)) (ap (λ (z : Entry). key_eq z.1 e.1) (sym (entry_cmp-IsAntisymmetric e x.0 t)) ∙ key_eq-same e.1)
      | Greater ↦ λ t. let parts = none_head x es e.1 h in value_at-skip x (puts e v es) e.1 parts.0 ∙ value_at-puts_own e v es parts.1
    ] refl

own-puts : (index : Index) (e : Entry) (v : PathTree) (es : Entries) → e ≡ entry index (e.1, v) → Own index es → Own index (puts e v es)
own-puts index e v [] is h = (is, tt)
own-puts index e v (x ∷ es) is h =
    elim (entry_cmp e x.0) as (λ o. entry_cmp e x.0 ≡ o → Own index (by_order o ((e, v) ∷ x ∷ es) ((x.0, v) ∷ es) (x ∷ puts e v es))) [
      | Less ↦ λ t. (is, h)
      | Equal ↦ λ t. (subst (λ (z : Entry). z ≡ entry index (z.1, v)) (entry_cmp-IsAntisymmetric e x.0 t) is, h.1)
      | Greater ↦ λ t. (h.0, own-puts index e v es is h.1)
    ] refl

once-puts : (e : Entry) (v : PathTree) (es : Entries) → value_at es e.1 ≡ None → Once es → Once (puts e v es)
once-puts e v [] n h = (refl, tt)
once-puts e v (x ∷ es) n h =
    elim (entry_cmp e x.0) as (λ o. Once (by_order o ((e, v) ∷ x ∷ es) ((x.0, v) ∷ es) (x ∷ puts e v es))) [
      | Less ↦ (n, h)
      | Equal ↦ (h.0, h.1)
      | Greater ↦ let parts = none_head x es e.1 n in (value_at-puts e v es x.0.1 (key_eq-symm e.1 x.0.1 ∙ parts.0) ∙ h.0, once-puts e v es parts.1 h.1)
    ]

pub listed-puts : (index : Index) (k : Key) (v : PathTree) (es : Entries) → IsListed index es → value_at es k ≡ None → IsListed index (puts (entry index (k, v)) v es)
listed-puts index k v es h none = record {
  rises = is_sorted-put entry_cmp entry_cmp_total (entry index (k, v)) v es h.rises;
  own = own-puts index (entry index (k, v)) v es refl h.own;
  once = once-puts (entry index (k, v)) v es none h.once;
}

pub value_at-puts_all : (index : Index) (k : Key) (v : PathTree) (es : Entries) → value_at es k ≡ None → (j : Key) → value_at (puts (entry index (k, v)) v es) j ≡ cond (key_eq k j) (Some v) (value_at es j)
value_at-puts_all index k v es none j =
    elim (key_eq k j) as (λ b. key_eq k j ≡ b → value_at (puts (entry index (k, v)) v es) j ≡ cond b (Some v) (value_at es j)) [
      | true ↦ λ t. ap (value_at (puts (entry index (k, v)) v es)) (sym (key_eq-is k j t)) ∙ value_at-puts_own (entry index (k, v)) v es none
      | false ↦ λ t. value_at-puts (entry index (k, v)) v es j t
    ] refl

-- what is there already
pub puts_there : (index : Index) (k : Key) (v : PathTree) (es : Entries) → IsListed index es → value_at es k ≡ Some v → puts (entry index (k, v)) v es ≡ es
puts_there index k v es h there =
    let e : Entry = entry index (k, v) in
    same_entries entry_cmp entry_cmp_total entry_cmp-IsAntisymmetric (puts e v es) es (is_sorted-put entry_cmp entry_cmp_total e v es h.rises) h.rises
    (λ q. find-put entry_cmp entry_cmp_total q e v es
    ∙ elim (eq_by_cmp entry_cmp q e) as (λ b. eq_by_cmp entry_cmp q e ≡ b → cond b (Some v) (find entry_cmp q es) ≡ find entry_cmp q es) [
      | true ↦ λ t. sym (ap (λ (z : Entry). find entry_cmp z es) (same_entry q e t) ∙ find-value_at index es h.own h.once e ∙ ap (at_entry index e) there
          ∙ ap (λ o. cond (is_eq o) (Some v) None) (tied_itself entry_cmp_total e))
      | false ↦ λ t. refl
    ] refl)

-- ---- the children of a tree

abbrev pub EachOnce : List (Key × PathTree) → Type 0
EachOnce [] = Unit {0}
EachOnce (c ∷ cs) = (child_of cs c.0 ≡ None) × EachOnce cs

none_above : (k : Key) (cs : List (Key × PathTree)) → AllByRecursion (λ y. key_cmp k y ≡ Less) (keys_of cs) → child_of cs k ≡ None
none_above k [] h = refl
none_above k (c ∷ cs) h = ap (λ b. cond b (Some c.1) (child_of cs k)) (ap is_eq h.0) ∙ none_above k cs h.1

pub each_once : (cs : List (Key × PathTree)) → IsStrictlySortedBy key_cmp (keys_of cs) → EachOnce cs
unfolding IsStrictlySortedBy
each_once [] h = tt
each_once (c ∷ cs) h = (none_above c.0 cs h.0, each_once cs h.1)

pub sorted_listed : (index : Index) (cs : List (Key × PathTree)) → EachOnce cs → IsListed index (sorted_by index cs) × ((k : Key) → value_at (sorted_by index cs) k ≡ child_of cs k)
sorted_listed index [] h = (record { rises = tt; own = tt; once = tt }, λ k. refl)
sorted_listed index (c ∷ cs) h =
    let rest = sorted_listed index cs h.1 in
    let none : value_at (sorted_by index cs) c.0 ≡ None = rest.1 c.0 ∙ h.0 in (
      listed-puts index c.0 c.1 (sorted_by index cs) rest.0 none,
      λ k. value_at-puts_all index c.0 c.1 (sorted_by index cs) none k ∙ (λ i. cond (key_eq-symm c.0 k i) (Some c.1) (rest.1 k i)),
    )

pub listed-children : (index : Index) (t : PathTree) → IsListed index (sorted_by index (children_of t))
listed-children index t = (sorted_listed index (children_of t) (each_once (children_of t) (children_sorted t))).0

pub value_at-children : (index : Index) (t : PathTree) (k : Key) → value_at (sorted_by index (children_of t)) k ≡ child_of (children_of t) k
value_at-children index t = (sorted_listed index (children_of t) (each_once (children_of t) (children_sorted t))).1

-- those in the range
pub listed-in_order : (q : Query) (t : PathTree) → IsListed q.index (in_order q (children_of t))
listed-in_order q t = listed-filter (has q.range) q.index (sorted_by q.index (children_of t)) (listed-children q.index t)

pub value_at-in_order : (q : Query) (t : PathTree) (k : Key) → value_at (in_order q (children_of t)) k ≡ passing (has q.range) q.index k (child_of (children_of t) k)
value_at-in_order q t k =
    value_at-filter (has q.range) q.index (sorted_by q.index (children_of t)) (listed-children q.index t) k ∙ ap (passing (has q.range) q.index k) (value_at-children q.index t k)

-- ---- those within the limit

-- the first of two values
abbrev or_else : Option PathTree → Option PathTree → Option PathTree
or_else None o = o
or_else (Some v) o = Some v

value_at-append : (s r : Entries) (k : Key) → value_at (s ++ r) k ≡ or_else (value_at s k) (value_at r k)
value_at-append [] r k = refl
value_at-append (x ∷ s) r k =
    value_at-cons x (s ++ r) k ∙ ap (cond (key_eq x.0.1 k) (Some x.1)) (value_at-append s r k)
    ∙ elim (key_eq x.0.1 k) as (λ b. cond b (Some x.1) (or_else (value_at s k) (value_at r k)) ≡ or_else (cond b (Some x.1) (value_at s k)) (value_at r k)) [
      | true ↦ refl
      | false ↦ refl
    ]
    ∙ ap (λ o. or_else o (value_at r k)) (sym (value_at-cons x s k))

none_left : (s r : Entries) (k : Key) → value_at (s ++ r) k ≡ None → (value_at s k ≡ None) × (value_at r k ≡ None)
none_left s r k h = neither (value_at s k) (value_at r k) (sym (value_at-append s r k) ∙ h)
  where
    neither : (a b : Option PathTree) → or_else a b ≡ None → (a ≡ None) × (b ≡ None)
    neither None b e = (refl, e)
    neither (Some v) b e = cc

pub own-left : (index : Index) (s r : Entries) → Own index (s ++ r) → Own index s × Own index r
own-left index [] r h = (tt, h)
own-left index (x ∷ s) r h = let rest = own-left index s r h.1 in ((h.0, rest.0), rest.1)

pub once-left : (s r : Entries) → Once (s ++ r) → Once s × Once r
once-left [] r h = (tt, h)
once-left (x ∷ s) r h = let rest = once-left s r h.1 in (((none_left s r x.0.1 h.0).0, rest.0), rest.1)

-- nothing stands under one key in both of two parts
once_apart : (s r : Entries) (k : Key) (v : PathTree) → Once (s ++ r) → value_at s k ≡ Some v → value_at r k ≡ None
once_apart [] r k v once h = cc
once_apart (x ∷ s) r k v once h =
    elim (key_eq x.0.1 k) as (λ b. key_eq x.0.1 k ≡ b → cond b (Some x.1) (value_at s k) ≡ Some v → value_at r k ≡ None) [
      | true ↦ λ t g. (none_left s r k (ap (value_at (s ++ r)) (sym (key_eq-is x.0.1 k t)) ∙ once.0)).1
      | false ↦ λ t g. once_apart s r k v once.1 g
    ] refl (sym (value_at-cons x s k) ∙ h)

apart_once : (s r : Entries) (k : Key) (v : PathTree) → Once (s ++ r) → value_at r k ≡ Some v → value_at s k ≡ None
apart_once s r k v once h = at (value_at s k) refl
  where
    at : (o : Option PathTree) → value_at s k ≡ o → o ≡ None
    at None e = refl
    at (Some w) e = cc (once_apart s r k w once e, h)

-- the parts of a window: both are listed, a key that stands in the rest isn't shown, and what is shown is one of all
pub record IsParted (index : Index) (s r all : Entries) : Type 0 where
  pub shown : IsListed index s
  pub rest : IsListed index r
  pub apart : (k : Key) (v : PathTree) → value_at r k ≡ Some v → value_at s k ≡ None
  pub among : (k : Key) (v : PathTree) → value_at s k ≡ Some v → value_at all k ≡ Some v

pub parted : (index : Index) (limit : Option Limit) (s r all : Entries) → IsWindow limit s r all → IsListed index all → IsParted index s r all
parted index limit s r all w h = at limit (subst (Own index) (sym w.whole) h.own) (subst Once (sym w.whole) h.once) (λ k. ap (λ (es : Entries). value_at es k) w.whole)
  where
    ahead : Own index (s ++ r) → Once (s ++ r) → ((k : Key) → value_at (s ++ r) k ≡ value_at all k) → IsParted index s r all
    ahead own once same = record {
      shown = record { rises = (parts_rise limit s r all w).0; own = (own-left index s r own).0; once = (once-left s r once).0 };
      rest = record { rises = (parts_rise limit s r all w).1; own = (own-left index s r own).1; once = (once-left s r once).1 };
      apart = λ k v e. apart_once s r k v once e;
      among = λ k v e. sym (same k) ∙ value_at-append s r k ∙ ap (λ o. or_else o (value_at r k)) e;
    }

    at : (l : Option Limit) → Own index (joined l s r) → Once (joined l s r) → ((k : Key) → value_at (joined l s r) k ≡ value_at all k) → IsParted index s r all
    at None own once same = ahead own once same
    at (Some (First n)) own once same = ahead own once same
    at (Some (Last n)) own once same = record {
      shown = record { rises = (parts_rise limit s r all w).0; own = (own-left index r s own).1; once = (once-left r s once).1 };
      rest = record { rises = (parts_rise limit s r all w).1; own = (own-left index r s own).0; once = (once-left r s once).0 };
      apart = λ k v e. once_apart r s k v once e;
      among = λ k v e. sym (same k) ∙ value_at-append r s k ∙ ap (λ o. or_else o (value_at s k)) (apart_once r s k v once e) ∙ e;
    }

-- those that a limit doesn't show
abbrev left_out : Option Limit → Entries → Entries
left_out None es = []
left_out (Some (First n)) es = drop n es
left_out (Some (Last n)) es = take (length es - n) es

both_parts : (limit : Option Limit) (es : Entries) → joined limit (limited limit es) (left_out limit es) ≡ es
both_parts None es = append-nil es
both_parts (Some (First n)) es = take-append-drop n es
both_parts (Some (Last n)) es = take-append-drop (length es - n) es

-- what a query shows is listed
pub listed-entries : (q : Query) (t : PathTree) → IsListed q.index (entries_shown q t)
listed-entries q t =
    let all = in_order q (children_of t) in
    let listed = listed-in_order q t in
    let cut : IsWindow q.limit (entries_shown q t) (left_out q.limit all) all = record { rises = listed.rises; whole = both_parts q.limit all; cut = refl } in
    (parted q.index q.limit _ _ all cut listed).shown

pub listed-window : (q : Query) (t : PathTree) (w : OrderedChildren) → IsWindowOf q t w → IsListed q.index (shown_in w)
listed-window q t w h = subst (IsListed q.index) h.cut.cut (listed-entries q t)
