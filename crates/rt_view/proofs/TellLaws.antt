-- What is told of the noted children is what is told of all.
use Rattle.std.specs.Prelude.{T}
use Rattle.std.proofs.Common.{◌≡◌, ℕ, ◌+◌, ◌<◌, length, take, get_or, Bool, true, false, cond, not, ◌&&◌, ◌||◌, List, [], ◌∷◌, ◌++◌, map, refl, sym, ap, subst, ◌∙◌, append_assoc, append-nil, Option, Some, None, is_some}
use Rattle.std.specs.declared.cmp.Ordering.TheVariants.{Less, Equal, Greater}
use Rattle.std.specs.Ordering.{is_eq, is_le, is_lt}
use Rattle.std.specs.Cmp.{tied_itself}
use Rattle.std.specs.List.{AllByRecursion, filter}
use Rattle.std.proofs.lemmas.List.{map-append, take_more}
use Rattle.std.specs.FinMap as map_of
use Rattle.std.specs.FinMap.Entries.{by_order, is_sorted, below_all}
use Rattle.rt_tree.specs.PathTree.{Key, PathTree, first, second, key_eq, key_eq-is, key_eq-same, child_of}
use Rattle.rt_tree.specs.Children.{children_of}
use Rattle.rt_tree.specs.TreeEq.{tree_eq_tells}
use Rattle.rt_order.specs.Entries.{Entry, entry, entry_cmp, sort_value}
use Rattle.rt_order.specs.declared.index.Index.{Index}
use Rattle.rt_order.specs.laws.EntryOrder.{entry_cmp_total, entry_cmp-IsAntisymmetric, value_cmp_total}
use Rattle.rt_query.specs.declared.row.Row.{Row}
use Rattle.rt_query.specs.Rows.{row_at}
use Rattle.rt_query.specs.Select.{row_of}
use Rattle.rt_view.specs.declared.change.Change.{Change}
use Rattle.rt_view.specs.declared.change.Change.TheVariants.{Removed}
use Rattle.rt_view.specs.declared.change.Kind.{Kind}
use Rattle.rt_view.specs.declared.change.Kind.TheVariants as kind
use Rattle.rt_view.specs.Changes.{placed, removals, placed_changes}
use Rattle.rt_view.specs.inside.Given.{change_of, is_given}
use Rattle.rt_view.specs.inside.Windows.{Entries, value_at, before, last_key}
use Rattle.rt_view.specs.inside.ViewIndex.{is_noted, Notes, noted_in, gone_at, gone_from, removed_of, given_in, rows_in_tree}
use Rattle.rt_view.specs.declared.seen.Seen.{Seen}
use Rattle.rt_view.specs.declared.seen.Told.{Told}
use Rattle.rt_view.specs.inside.Telling.{given_of, gone_too, keys_in, told_in, told_of, told_too}
use Rattle.rt_view.proofs.Listed.{IsListed, same_listed, passing, listed-filter, value_at-filter, listed-puts, value_at-puts_all, puts_there, value_at-children}
use Rattle.rt_view.proofs.WindowLaws.{above_head, below_of, last_key-push, sorted-right}
use Rattle.rt_view.proofs.TurnLaws.{Finds, finds_itself}
use Rattle.rt_view.proofs.TouchLaws.{is_noted-push}

-- ---- those of some keys

abbrev pub where_keys : (Key → Bool) → Entries → Entries
where_keys p es = filter (λ e. p e.0.1) es

either_way : (b : Bool) (o : Option PathTree) → cond b o o ≡ o
either_way true o = refl
either_way false o = refl

by_key : (p : Key → Bool) (index : Index) (j : Key) (o : Option PathTree) → passing (λ e. p e.1) index j o ≡ cond (p j) o None
by_key p index j None = sym (either_way (p j) None)
by_key p index j (Some v) = refl

pub listed-where : (p : Key → Bool) (index : Index) (es : Entries) → IsListed index es → IsListed index (where_keys p es)
listed-where p index es h = listed-filter (λ e. p e.1) index es h

pub value_at-where : (p : Key → Bool) (index : Index) (es : Entries) → IsListed index es → (j : Key) → value_at (where_keys p es) j ≡ cond (p j) (value_at es j) None
value_at-where p index es h j = value_at-filter (λ e. p e.1) index es h j ∙ by_key p index j (value_at es j)

-- the tests need only agree where something stands
pub where_same : (p r : Key → Bool) (index : Index) (es : Entries) → IsListed index es → ((j : Key) → cond (p j) (value_at es j) None ≡ cond (r j) (value_at es j) None) → where_keys p es ≡ where_keys r es
where_same p r index es h same =
    same_listed index (where_keys p es) (where_keys r es) (listed-where p index es h) (listed-where r index es h)
    (λ j. value_at-where p index es h j ∙ same j ∙ sym (value_at-where r index es h j))

-- tests that differ at one key alone
module _ (p r : Key → Bool) (k : Key) (others : (j : Key) → key_eq k j ≡ false → r j ≡ p j) where
  pub where_still : (index : Index) (es : Entries) → IsListed index es → cond (p k) (value_at es k) None ≡ cond (r k) (value_at es k) None → where_keys p es ≡ where_keys r es
  where_still index es h here = where_same p r index es h (λ j.
      elim (key_eq k j) as (λ b. key_eq k j ≡ b → cond (p j) (value_at es j) None ≡ cond (r j) (value_at es j) None) [
        | true ↦ λ e. subst (λ (i : Key). cond (p i) (value_at es i) None ≡ cond (r i) (value_at es i) None) (key_eq-is k j e) here
        | false ↦ λ e. ap (λ b. cond b (value_at es j) None) (sym (others j e))
      ] refl)

  pub where_more : (index : Index) (v : PathTree) (es : Entries) → IsListed index es → value_at es k ≡ Some v → r k ≡ true → map_of.put entry_cmp (entry index (k, v)) v (where_keys p es) ≡ where_keys r es
  where_more index v es h there now =
      elim (p k) as (λ b. p k ≡ b → map_of.put entry_cmp (entry index (k, v)) v (where_keys p es) ≡ where_keys r es) [
        | true ↦ λ e.
            let found : value_at (where_keys p es) k ≡ Some v = value_at-where p index es h k ∙ ap (λ b. cond b (value_at es k) None) e ∙ there in
            puts_there index k v (where_keys p es) (listed-where p index es h) found
            ∙ where_still index es h (ap (λ b. cond b (value_at es k) None) (e ∙ sym now))
        | false ↦ λ e.
            let none : value_at (where_keys p es) k ≡ None = value_at-where p index es h k ∙ ap (λ b. cond b (value_at es k) None) e in
            same_listed index _ (where_keys r es) (listed-puts index k v (where_keys p es) (listed-where p index es h) none) (listed-where r index es h)
            (λ j. value_at-puts_all index k v (where_keys p es) none j
            ∙ elim (key_eq k j) as (λ b. key_eq k j ≡ b → cond b (Some v) (value_at (where_keys p es) j) ≡ cond (r j) (value_at es j) None) [
              | true ↦ λ s. subst (λ (i : Key). Some v ≡ cond (r i) (value_at es i) None) (key_eq-is k j s) (sym (ap (λ b. cond b (value_at es k) None) now ∙ there))
              | false ↦ λ s. value_at-where p index es h j ∙ ap (λ b. cond b (value_at es j) None) (sym (others j s))
            ] refl
            ∙ sym (value_at-where r index es h j))
      ] refl

or_nothing : (a b : Bool) → b ≡ false → (a || (b || false)) ≡ a
or_nothing a true h = cc
or_nothing true false h = refl
or_nothing false false h = refl

or_there : (a b : Bool) → b ≡ true → (a || (b || false)) ≡ true
or_there true b h = refl
or_there false true h = refl
or_there false false h = cc

-- one key more is noted
pub note_other : (ks : List Key) (k j : Key) → key_eq k j ≡ false → is_noted (ks ++ k ∷ []) j ≡ is_noted ks j
note_other ks k j h = is_noted-push ks k j ∙ or_nothing (is_noted ks j) (key_eq k j) h

pub note_own : (ks : List Key) (k : Key) → is_noted (ks ++ k ∷ []) k ≡ true
note_own ks k = is_noted-push ks k k ∙ or_there (is_noted ks k) (key_eq k k) (key_eq-same k)

-- ---- the rows that are noted, one key after another

nothing : (o : Option PathTree) → o ≡ None → (a b : Bool) → cond a o None ≡ cond b o None
nothing o none true true = refl
nothing o none true false = none
nothing o none false true = sym none
nothing o none false false = refl

pub noted_none : (index : Index) (ks : List Key) (k : Key) (es : Entries) → IsListed index es → value_at es k ≡ None → noted_in ks es ≡ noted_in (ks ++ k ∷ []) es
noted_none index ks k es h none =
    where_still (is_noted ks) (is_noted (ks ++ k ∷ [])) k (note_other ks k) index es h (nothing (value_at es k) none (is_noted ks k) (is_noted (ks ++ k ∷ []) k))

pub noted_some : (index : Index) (ks : List Key) (k : Key) (v : PathTree) (es : Entries) → IsListed index es → value_at es k ≡ Some v → map_of.put entry_cmp (entry index (k, v)) v (noted_in ks es) ≡ noted_in (ks ++ k ∷ []) es
noted_some index ks k v es h there = where_more (is_noted ks) (is_noted (ks ++ k ∷ [])) k (note_other ks k) index v es h there (note_own ks k)

-- whether a key is noted and shown no more
is_gone : List Key → Entries → Key → Bool
is_gone ks new j = is_noted ks j && not (is_some (value_at new j))

gone_other : (ks : List Key) (new : Entries) (k j : Key) → key_eq k j ≡ false → is_gone (ks ++ k ∷ []) new j ≡ is_gone ks new j
unfolding is_gone
gone_other ks new k j h = ap (λ b. b && not (is_some (value_at new j))) (note_other ks k j h)

and_false : (a : Bool) → (a && false) ≡ false
and_false true = refl
and_false false = refl

-- it is still shown
pub gone_still : (index : Index) (ks : List Key) (k : Key) (new old : Entries) → IsListed index old → is_some (value_at new k) ≡ true → gone_from ks new old ≡ gone_from (ks ++ k ∷ []) new old
unfolding is_gone
gone_still index ks k new old h there =
    where_still (is_gone ks new) (is_gone (ks ++ k ∷ []) new) k (gone_other ks new k) index old h
    (ap (λ b. cond b (value_at old k) None) (not_gone ks ∙ sym (not_gone (ks ++ k ∷ []))))
  where
    not_gone : (js : List Key) → (is_noted js k && not (is_some (value_at new k))) ≡ false
    not_gone js = ap (λ b. is_noted js k && not b) there ∙ and_false (is_noted js k)

-- it wasn't shown before
pub gone_none : (index : Index) (ks : List Key) (k : Key) (new old : Entries) → IsListed index old → value_at old k ≡ None → gone_from ks new old ≡ gone_from (ks ++ k ∷ []) new old
unfolding is_gone
gone_none index ks k new old h none =
    where_still (is_gone ks new) (is_gone (ks ++ k ∷ []) new) k (gone_other ks new k) index old h (nothing (value_at old k) none (is_gone ks new k) (is_gone (ks ++ k ∷ []) new k))

-- it was, and is no more
pub gone_some : (index : Index) (ks : List Key) (k : Key) (v : PathTree) (new old : Entries) → IsListed index old → value_at new k ≡ None → value_at old k ≡ Some v
    → map_of.put entry_cmp (entry index (k, v)) v (gone_from ks new old) ≡ gone_from (ks ++ k ∷ []) new old
unfolding is_gone
gone_some index ks k v new old h none there =
    where_more (is_gone ks new) (is_gone (ks ++ k ∷ []) new) k (gone_other ks new k) index v old h there
    (λ i. note_own ks k i && not (is_some (none i)))

-- and one of these
pub gone_no_more : (index : Index) (ks : List Key) (k : Key) (new old : Entries) → IsListed index old → None ≡ gone_at (value_at new k) (value_at old k) → gone_from ks new old ≡ gone_from (ks ++ k ∷ []) new old
gone_no_more index ks k new old h is =
    elim (is_some (value_at new k)) as (λ b. is_some (value_at new k) ≡ b → None ≡ cond b None (value_at old k) → gone_from ks new old ≡ gone_from (ks ++ k ∷ []) new old) [
      | true ↦ λ e f. gone_still index ks k new old h e
      | false ↦ λ e f. gone_none index ks k new old h (sym f)
    ] refl is

pub gone_more : (index : Index) (ks : List Key) (k : Key) (v : PathTree) (new old : Entries) → IsListed index old → Some v ≡ gone_at (value_at new k) (value_at old k)
    → map_of.put entry_cmp (entry index (k, v)) v (gone_from ks new old) ≡ gone_from (ks ++ k ∷ []) new old
gone_more index ks k v new old h is =
    elim (is_some (value_at new k)) as (λ b. is_some (value_at new k) ≡ b → Some v ≡ cond b None (value_at old k) → map_of.put entry_cmp (entry index (k, v)) v (gone_from ks new old) ≡ gone_from (ks ++ k ∷ []) new old) [
      | true ↦ λ e f. cc
      | false ↦ λ e f. gone_some index ks k v new old h (none_there (value_at new k) e) (sym f)
    ] refl is
  where
    none_there : (o : Option PathTree) → is_some o ≡ false → o ≡ None
    none_there None e = refl
    none_there (Some x) e = cc

-- what is gone from one key more, where it was shown and is no more
pub gone_also : (index : Index) (ks : List Key) (k : Key) (new old : Entries) → IsListed index old → gone_too index k (gone_at (value_at new k) (value_at old k)) (gone_from ks new old) ≡ gone_from (ks ++ k ∷ []) new old
gone_also index ks k new old h = at (gone_at (value_at new k) (value_at old k)) refl
  where
    at : (o : Option PathTree) → o ≡ gone_at (value_at new k) (value_at old k) → gone_too index k o (gone_from ks new old) ≡ gone_from (ks ++ k ∷ []) new old
    at None e = gone_no_more index ks k new old h e
    at (Some v) e = gone_more index ks k v new old h e

-- what is told of entries of which one more is put
told_in-puts : (t : PathTree) (shown : Entries) (e : Entry) (v : PathTree) (es : Entries) → map_of.put entry_cmp e (told_of t shown (e, v)) (told_in t shown es) ≡ told_in t shown (map_of.put entry_cmp e v es)
told_in-puts t shown e v [] = refl
told_in-puts t shown e v (x ∷ es) =
    elim (entry_cmp e x.0) as (λ o. entry_cmp e x.0 ≡ o → by_order o ((e, told_of t shown (e, v)) ∷ told_in t shown (x ∷ es)) ((x.0, told_of t shown (e, v)) ∷ told_in t shown es) ((x.0, told_of t shown x) ∷ map_of.put entry_cmp e (told_of t shown (e, v)) (told_in t shown es))
    ≡ told_in t shown (by_order o ((e, v) ∷ x ∷ es) ((x.0, v) ∷ es) (x ∷ map_of.put entry_cmp e v es))) [
      | Less ↦ λ h. refl
      | Equal ↦ λ h. ap (λ (z : Entry). (x.0, told_of t shown (z, v)) ∷ told_in t shown es) (entry_cmp-IsAntisymmetric e x.0 h)
      | Greater ↦ λ h. ap (λ rs. (x.0, told_of t shown x) ∷ rs) (told_in-puts t shown e v es)
    ] refl

-- and of the noted ones with one key more
pub told_also : (index : Index) (ks : List Key) (k : Key) (t : PathTree) (shown : Entries) → IsListed index shown → told_too index k (child_of (children_of t) k) shown (value_at shown k) (told_in t shown (noted_in ks shown)) ≡ told_in t shown (noted_in (ks ++ k ∷ []) shown)
told_also index ks k t shown h = at (value_at shown k) refl
  where
    at : (o : Option PathTree) → value_at shown k ≡ o → told_too index k (child_of (children_of t) k) shown o (told_in t shown (noted_in ks shown)) ≡ told_in t shown (noted_in (ks ++ k ∷ []) shown)
    at None e = ap (told_in t shown) (noted_none index ks k shown h e)
    at (Some v) e = told_in-puts t shown (entry index (k, v)) v (noted_in ks shown) ∙ ap (told_in t shown) (noted_some index ks k v shown h e)

-- what is shown under one key more
pub keys_in-more : (seen : List Seen) (s : Seen) → keys_in (seen ++ s ∷ []) ≡ keys_in seen ++ s.key ∷ []
keys_in-more seen s = map-append (λ r. r.key) seen (s ∷ [])

-- the changes of one kind, by what is told
pub given_of-told : (k : Kind) (index : Index) (t : PathTree) (shown es : Entries) → given_of k index (told_in t shown es) ≡ given_in k index t shown es
given_of-told k index t shown [] = refl
given_of-told k index t shown (x ∷ es) =
    elim (is_given k index (child_of (children_of t) x.0.1) x.1) as (λ b. map (λ (e : Entry × Told). change_of k e.0.1 e.1.new e.1.after) (cond b ((x.0, told_of t shown x) ∷ filter (λ (e : Entry × Told). is_given k index e.1.old e.1.new) (told_in t shown es)) (filter (λ (e : Entry × Told). is_given k index e.1.old e.1.new) (told_in t shown es)))
    ≡ map (λ (e : Entry × PathTree). change_of k e.0.1 e.1 (before e.0 shown)) (cond b (x ∷ filter (λ (e : Entry × PathTree). is_given k index (child_of (children_of t) e.0.1) e.1) es) (filter (λ (e : Entry × PathTree). is_given k index (child_of (children_of t) e.0.1) e.1) es))) [
      | true ↦ ap (λ cs. change_of k x.0.1 x.1 (before x.0 shown) ∷ cs) (given_of-told k index t shown es)
      | false ↦ given_of-told k index t shown es
    ]

-- the first keys, and one more
pub next_taken : {X : Type 0} (ks : List X) (i : ℕ) (k : X) → i < length ks → k ≡ get_or ks i k → take (i + 1) ks ≡ take i ks ++ k ∷ []
next_taken ks i k below is = take_more ks i k below ∙ ap (λ j. take i ks ++ j ∷ []) (sym is)

-- none of the rows is among no keys
pub noted_nothing : (es : Entries) → noted_in [] es ≡ []
noted_nothing [] = refl
noted_nothing (x ∷ es) = noted_nothing es

pub gone_nothing : (new es : Entries) → gone_from [] new es ≡ []
gone_nothing new [] = refl
gone_nothing new (x ∷ es) = gone_nothing new es

-- ---- the removed ones

keep_old : (a : Bool) (old new : Option PathTree) → (a ≡ false → new ≡ old) → cond (a && not (is_some new)) old None ≡ cond (not (is_some new)) old None
keep_old true old new h = refl
keep_old false None None h = refl
keep_old false None (Some v) h = refl
keep_old false (Some v) None h = cc (h refl)
keep_old false (Some w) (Some v) h = refl

-- where nothing differs under the other keys, all that are gone are noted
pub gone_all : (index : Index) (ks : List Key) (new old : Entries) → IsListed index old → Notes [] ks old new → gone_from ks new old ≡ where_keys (λ j. not (is_some (value_at new j))) old
unfolding is_gone
gone_all index ks new old h notes =
    where_same (is_gone ks new) (λ j. not (is_some (value_at new j))) index old h (λ j. keep_old (is_noted ks j) (value_at old j) (value_at new j) (λ e. (notes j e).1))

pub removals-rows : (new : Entries) (es : Entries) → map removed_of (where_keys (λ j. not (is_some (value_at new j))) es) ≡ removals (map row_of es) (map row_of new)
removals-rows new [] = refl
removals-rows new (x ∷ es) =
    elim (is_some (value_at new x.0.1)) as (λ b. map removed_of (cond (not b) (x ∷ where_keys (λ j. not (is_some (value_at new j))) es) (where_keys (λ j. not (is_some (value_at new j))) es))
    ≡ map (λ r. Removed r.key r.value) (cond (not b) (row_of x ∷ filter (λ r. not (is_some (row_at (map row_of new) r.key))) (map row_of es)) (filter (λ r. not (is_some (row_at (map row_of new) r.key))) (map row_of es)))) [
      | true ↦ removals-rows new es
      | false ↦ ap (λ cs. removed_of x ∷ cs) (removals-rows new es)
    ]

-- ---- the rows with the keys before them

not_below : (e : Entry) (es : Entries) → T (below_all entry_cmp e es) → filter (λ x. not (is_le (entry_cmp e x.0))) es ≡ []
not_below e [] h = refl
not_below e (x ∷ es) h =
    ap (λ o. cond (not (is_le o)) (x ∷ filter (λ y. not (is_le (entry_cmp e y.0))) es) (filter (λ y. not (is_le (entry_cmp e y.0))) es)) (below_of e x.0 (first _ _ h))
    ∙ not_below e es (second (is_lt (entry_cmp e x.0)) _ h)

all_below : (e : Entry) (s r : Entries) → AllByRecursion (λ x. entry_cmp e x.0 ≡ Greater) s → filter (λ x. not (is_le (entry_cmp e x.0))) (s ++ r) ≡ s ++ filter (λ x. not (is_le (entry_cmp e x.0))) r
all_below e [] r h = refl
all_below e (x ∷ s) r h =
    ap (λ o. cond (not (is_le o)) (x ∷ filter (λ y. not (is_le (entry_cmp e y.0))) (s ++ r)) (filter (λ y. not (is_le (entry_cmp e y.0))) (s ++ r))) h.0
    ∙ ap (λ es. x ∷ es) (all_below e s r h.1)

-- the child before one in a list that rises
pub before-at : (s : Entries) (x : Entry × PathTree) (r : Entries) → T (is_sorted entry_cmp (s ++ x ∷ r)) → before x.0 (s ++ x ∷ r) ≡ last_key s
before-at s x r h =
    let own : filter (λ y. not (is_le (entry_cmp x.0 y.0))) (x ∷ r) ≡ [] =
    ap (λ o. cond (not (is_le o)) (x ∷ filter (λ y. not (is_le (entry_cmp x.0 y.0))) r) (filter (λ y. not (is_le (entry_cmp x.0 y.0))) r)) (tied_itself entry_cmp_total x.0)
    ∙ not_below x.0 r (first (below_all entry_cmp x.0 r) _ (sorted-right s (x ∷ r) h)) in
    ap last_key (all_below x.0 s (x ∷ r) (above_head s x r h) ∙ ap (λ es. s ++ es) own ∙ append-nil s)

-- a child as a row, with the key of the one before it
abbrev pub row_with : Entries → Entry × PathTree → Row × Option Key
row_with all e = (row_of e, before e.0 all)

pub placed-rows : (s es : Entries) → T (is_sorted entry_cmp (s ++ es)) → placed (last_key s) (map row_of es) ≡ map (row_with (s ++ es)) es
placed-rows s [] h = refl
placed-rows s (x ∷ es) h =
    let assoc : (s ++ x ∷ []) ++ es ≡ s ++ x ∷ es = append_assoc s (x ∷ []) es in
    let rest : placed (last_key (s ++ x ∷ [])) (map row_of es) ≡ map (row_with ((s ++ x ∷ []) ++ es)) es = placed-rows (s ++ x ∷ []) es (subst (λ xs. T (is_sorted entry_cmp xs)) (sym assoc) h) in
    (λ i. (row_of x, sym (before-at s x es h) i) ∷ placed (sym (last_key-push s x) i) (map row_of es))
    ∙ ap (λ ps. row_with (s ++ x ∷ es) x ∷ ps) (rest ∙ ap (λ (all : Entries). map (row_with all) es) assoc)

-- ---- those of which a change is given

-- the children that pass a test of the old value and the new one
abbrev pub tested : (Option PathTree → PathTree → Bool) → Entries → Entries → Entries
tested test old es = filter (λ e. test (value_at old e.0.1) e.1) es

pub placed_changes-tested : (test : Option PathTree → PathTree → Bool) (change : Key → PathTree → Option Key → Change) (old all es : Entries)
    → map (λ e. change e.0.1 e.1 (before e.0 all)) (tested test old es)
    ≡ map (λ p. change p.0.key p.0.value p.1) (filter (λ p. test (row_at (map row_of old) p.0.key) p.0.value) (map (row_with all) es))
placed_changes-tested test change old all [] = refl
placed_changes-tested test change old all (x ∷ es) =
    elim (test (value_at old x.0.1) x.1) as (λ b. map (λ e. change e.0.1 e.1 (before e.0 all)) (cond b (x ∷ tested test old es) (tested test old es))
    ≡ map (λ p. change p.0.key p.0.value p.1) (cond b (row_with all x ∷ filter (λ p. test (row_at (map row_of old) p.0.key) p.0.value) (map (row_with all) es)) (filter (λ p. test (row_at (map row_of old) p.0.key) p.0.value) (map (row_with all) es)))) [
      | true ↦ ap (λ cs. change x.0.1 x.1 (before x.0 all) ∷ cs) (placed_changes-tested test change old all es)
      | false ↦ placed_changes-tested test change old all es
    ]

-- no change is given of what didn't differ, so all of which one is given are noted
tested_noted : (test : Option PathTree → PathTree → Bool) → ((v : PathTree) → test (Some v) v ≡ false) → (ks : List Key) (old new es : Entries)
    → Notes [] ks old new → Finds (map row_of new) (map row_of es) → tested test old (noted_in ks es) ≡ tested test old es
tested_noted test still ks old new [] notes h = refl
tested_noted test still ks old new (x ∷ es) notes h =
    let rest = tested_noted test still ks old new es notes h.1 in
    elim (is_noted ks x.0.1) as (λ b. is_noted ks x.0.1 ≡ b → tested test old (cond b (x ∷ noted_in ks es) (noted_in ks es)) ≡ tested test old (x ∷ es)) [
      | true ↦ λ n. ap (λ (fs : Entries). cond (test (value_at old x.0.1) x.1) (x ∷ fs) fs) rest
      | false ↦ λ n.
          let same : value_at old x.0.1 ≡ Some x.1 = sym ((notes x.0.1 n).1) ∙ h.0 in
          rest ∙ sym (ap (λ b. cond b (x ∷ tested test old es) (tested test old es)) (ap (λ o. test o x.1) same ∙ still x.1))
    ] refl

no_change : (k : Kind) (index : Index) (v : PathTree) → is_given k index (Some v) v ≡ false
no_change kind.Added index v = refl
no_change kind.Moved index v = ap (λ o. not (is_eq o)) (tied_itself value_cmp_total (sort_value index v))
no_change kind.Changed index v = ap not ((tree_eq_tells v v).1 refl)

-- the changes of one kind of the noted children are those of all
pub given-all : (k : Kind) (index : Index) (t : PathTree) (ks : List Key) (new : Entries) → IsListed index new → Notes [] ks (rows_in_tree index t) new
    → given_in k index t new (noted_in ks new) ≡ placed_changes (is_given k index) (change_of k) (map row_of (rows_in_tree index t)) (map row_of new)
given-all k index t ks new h notes =
    let old = rows_in_tree index t in
    (λ i. map (λ (e : Entry × PathTree). change_of k e.0.1 e.1 (before e.0 new)) (filter (λ (e : Entry × PathTree). is_given k index (sym (value_at-children index t e.0.1) i) e.1) (noted_in ks new)))
    ∙ ap (map (λ (e : Entry × PathTree). change_of k e.0.1 e.1 (before e.0 new))) (tested_noted (is_given k index) (no_change k index) ks old new new notes (finds_itself (map row_of new) h.once))
    ∙ placed_changes-tested (is_given k index) (change_of k) old new new
    ∙ ap (λ ps. map (λ (p : Row × Option Key). change_of k p.0.key p.0.value p.1) (filter (λ (p : Row × Option Key). is_given k index (row_at (map row_of old) p.0.key) p.0.value) ps)) (sym (placed-rows [] new h.rises))

-- and so are those that are removed
pub removed-all : (index : Index) (t : PathTree) (ks : List Key) (new : Entries) → IsListed index (rows_in_tree index t) → Notes [] ks (rows_in_tree index t) new
    → map removed_of (gone_from ks new (rows_in_tree index t)) ≡ removals (map row_of (rows_in_tree index t)) (map row_of new)
removed-all index t ks new h notes = ap (map removed_of) (gone_all index ks new (rows_in_tree index t) h notes) ∙ removals-rows new (rows_in_tree index t)
