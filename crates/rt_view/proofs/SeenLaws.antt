-- What is kept by each key under which something else is shown: what was shown there first, and what is shown now.
use Rattle.std.specs.Prelude.{T, IfSome}
use Rattle.std.proofs.Common.{◌≡◌, Bool, true, false, cond, not, ◌&&◌, ◌||◌, List, [], ◌∷◌, refl, sym, ap, subst, ◌∙◌, ◌≤◌, Option, Some, None, is_some, ℕ, ◌+◌, ◌-◌, ◌<◌, suc, length, get_or, ◌++◌, map, append_assoc, append-nil, arith, ⊎_elim}
use Rattle.std.specs.Cmp.Lexicographic.{nat_list_cmp_total}
use Rattle.std.specs.List.{All, AllByRecursion, filter, fold}
use Rattle.std.specs.Map.{values_of}
use Rattle.std.specs.Option.{option_map_or}
use Rattle.std.specs.Ordering.{is_eq, is_lt, ordering_reverse}
use Rattle.std.specs.declared.cmp.Ordering.{Ordering}
use Rattle.std.specs.declared.cmp.Ordering.TheVariants.{Less, Equal, Greater}
use Rattle.std.proofs.lemmas.List.Elements.{All-cons, All-nil, All-weaker}
use Rattle.std.specs.FinMap as map_of
use Rattle.std.specs.FinMap.Entries.{find, is_sorted, below_all, is_sorted-put, find-put, by_order, same_entries}
use Rattle.rt_tree.specs.Allowed.{IsAllowed}
use Rattle.rt_tree.specs.PathTree.{Key, PathTree, first, second, key_cmp, key_eq, key_eq-is, key_eq-same, key_eq-symm, is_null, levels, child_of, non_null, put}
use Rattle.rt_tree.specs.Children.{children_of}
use Rattle.rt_order.specs.declared.index.Index.{Index}
use Rattle.rt_query.specs.Queries.{Query}
use Rattle.rt_view.specs.declared.seen.Seen.{Seen}
use Rattle.rt_view.specs.declared.window.Turned.{Turned}
use Rattle.rt_view.specs.inside.Ranged.{OrderedChildren}
use Rattle.rt_view.specs.inside.Windows.{Entries, value_at}
use Rattle.rt_view.specs.inside.ViewIndex.{IsWindowOf, entries_shown, is_noted, stands_in}
use Rattle.rt_view.specs.inside.Turns.{Comes, Leaves, Values, came_in, set_at, shown_if, went_out}
use Rattle.rt_view.specs.inside.Telling.{AllSeen, AreSeen, IsFit, IsKeptBy, IsNew, IsSeen, IsSeenOf, KeepsSeen, keys_in, seen_at, seen_in, seen_out, seen_too, seen_turned, kept_by, put_all}
use Rattle.rt_view.proofs.CrossLaws.{shown_known}
use Rattle.rt_view.proofs.Listed.{value_at-children}
use Rattle.rt_view.proofs.TouchLaws.{child_fits, child_of-put}
use Rattle.std.specs.Cmp.{IsStrictWeakOrder, IsTotalOrder}
use Rattle.std.specs.List.Sorted.{IsStableBy, IsStrictlySortedBy}
use Rattle.std.proofs.lemmas.List.MinMax.{ranks_by}
use Rattle.std.proofs.lemmas.Bool.{cases_lt}
use Rattle.rt_order.specs.Entries.{Entry, entry_cmp}
use Rattle.rt_order.specs.laws.EntryOrder.{entry_cmp_total}

pub fold_push : {A B : Type 0} (f : B → A → B) (a : B) (xs : List A) (x : A) → fold f a (xs ++ x ∷ []) ≡ f (fold f a xs) x
fold_push f a [] x = refl
fold_push f a (y ∷ ys) x = fold_push f (f a y) ys x

all_push : {X : Type 0} (P : X → Type 0) (xs : List X) (x : X) → AllByRecursion P xs → P x → AllByRecursion P (xs ++ x ∷ [])
all_push P [] x h p = (p, tt)
all_push P (y ∷ ys) x h p = (h.0, all_push P ys x h.1 p)

-- neighbours that rise up to a place, and there
pub next_rises : {X : Type 0} (R : X → X → Type 0) (xs : List X) (n : ℕ) → 0 < n → ((k : ℕ) (d : X) → k + 1 < n → R (get_or xs k d) (get_or xs (k + 1) d))
    → ((d : X) → R (get_or xs (n - 1) d) (get_or xs n d)) → (k : ℕ) (d : X) → k + 1 < n + 1 → R (get_or xs k d) (get_or xs (k + 1) d)
next_rises R xs n up h p k d l = ⊎_elim (λ a. h k d a)
    (λ a. subst (λ (m : ℕ). R (get_or xs m d) (get_or xs (k + 1) d)) {x = n - 1} {y = k} (omega arith) (subst (λ (m : ℕ). R (get_or xs (n - 1) d) (get_or xs m d)) {x = n} {y = k + 1} (omega arith) (p d)))
    (cases_lt (k + 1) n)

all_weaker : {X : Type 0} (P Q : X → Type 0) → ((x : X) → P x → Q x) → (xs : List X) → AllByRecursion P xs → AllByRecursion Q xs
all_weaker P Q f [] h = tt
all_weaker P Q f (x ∷ xs) h = (f x h.0, all_weaker P Q f xs h.1)

module _ {K V : Type 0} {R : K → K → Ordering} (o : IsTotalOrder R) where
  -- each key is below this one
  abbrev AreBelow : List (K × V) → K → Type 0
  AreBelow es k = AllByRecursion (λ e. R e.0 k ≡ Less) es

  put_behind : (k : K) (v : V) (es : List (K × V)) → AreBelow es k → map_of.put R k v es ≡ es ++ (k, v) ∷ []
  put_behind k v [] h = refl
  put_behind k v (e ∷ es) h =
      ap (λ r. by_order r ((k, v) ∷ e ∷ es) ((e.0, v) ∷ es) (e ∷ map_of.put R k v es)) (o.antisymm k e.0 ∙ ap ordering_reverse h.0)
      ∙ ap (λ fs. e ∷ fs) (put_behind k v es h.1)

  none_behind : (k : K) (es : List (K × V)) → AreBelow es k → find R k es ≡ None
  none_behind k [] h = refl
  none_behind k (e ∷ es) h =
      ap (λ r. cond (is_eq r) (Some e.1) (find R k es)) (o.antisymm k e.0 ∙ ap ordering_reverse h.0) ∙ none_behind k es h.1

  module _ {P : Type 0} (tag : P → K × V) where
    -- neighbours that rise
    pub rises : (ps : List P) → ((k : ℕ) (d : P) → k + 1 < length ps → R (tag (get_or ps k d)).0 (tag (get_or ps (k + 1) d)).0 ≡ Less) → IsStrictlySortedBy R (map (λ p. (tag p).0) ps)
    unfolding IsStrictlySortedBy
    rises [] h = tt
    rises (p ∷ []) h = (tt, tt)
    rises (p ∷ q ∷ ps) h =
        let e : R (tag p).0 (tag q).0 ≡ Less = h 0 p (omega arith) in
        let s = rises (q ∷ ps) (λ k d l. subst (λ n. R (tag (get_or (q ∷ ps) k d)).0 (tag (get_or (p ∷ q ∷ ps) n d)).0 ≡ Less) {x = suc k + 1} {y = suc (k + 1)} (omega arith) (h (suc k) d (omega arith))) in
        ((e, all_weaker (λ z. R (tag q).0 z ≡ Less) (λ z. R (tag p).0 z ≡ Less) (λ z. o.trans (tag p).0 (tag q).0 z e) (map (λ r. (tag r).0) ps) s.0), s)

    unmapped : (k : K) (ps : List P) → AllByRecursion (λ z. R k z ≡ Less) (map (λ p. (tag p).0) ps) → AllByRecursion (λ p. R k (tag p).0 ≡ Less) ps
    unmapped k [] h = tt
    unmapped k (p ∷ ps) h = (h.0, unmapped k ps h.1)

    module _ (f : List (K × V) → P → List (K × V)) (step : (es : List (K × V)) (p : P) → AreBelow es (tag p).0 → f es p ≡ es ++ tag p ∷ []) where
      folds : (ps : List P) (es : List (K × V)) → AllByRecursion (λ e. AllByRecursion (λ p. R e.0 (tag p).0 ≡ Less) ps) es
          → IsStrictlySortedBy R (map (λ p. (tag p).0) ps) → fold f es ps ≡ es ++ map tag ps
      unfolding IsStrictlySortedBy
      folds [] es b s = sym (append-nil es)
      folds (p ∷ ps) es b s =
          let above : List P → K × V → Type 0 = λ qs e. AllByRecursion (λ q. R e.0 (tag q).0 ≡ Less) qs in
          ap (λ fs. fold f fs ps) (step es p (all_weaker (above (p ∷ ps)) (λ e. R e.0 (tag p).0 ≡ Less) (λ e h. h.0) es b))
          ∙ folds ps (es ++ tag p ∷ []) (all_push (above ps) es (tag p) (all_weaker (above (p ∷ ps)) (above ps) (λ e h. h.1) es b) (unmapped (tag p).0 ps s.0)) s.1
          ∙ append_assoc es (tag p ∷ []) (map tag ps)

      pub folds_all : (ps : List P) → ((k : ℕ) (d : P) → k + 1 < length ps → R (tag (get_or ps k d)).0 (tag (get_or ps (k + 1) d)).0 ≡ Less) → fold f [] ps ≡ map tag ps
      folds_all ps h = folds ps [] tt (rises ps h)

map_same : {X : Type 0} (xs : List X) → map (λ x. x) xs ≡ xs
map_same [] = refl
map_same (x ∷ xs) = ap (λ ys. x ∷ ys) (map_same xs)

pub put_rising : {V : Type 0} (ps : List (Entry × V)) → ((k : ℕ) (d : Entry × V) → k + 1 < length ps → entry_cmp (get_or ps k d).0 (get_or ps (k + 1) d).0 ≡ Less) → put_all ps ≡ ps
put_rising ps h = folds_all entry_cmp_total (λ p. p) (λ es c. map_of.put entry_cmp c.0 c.1 es) (λ es p b. put_behind entry_cmp_total p.0 p.1 es b) ps h ∙ map_same ps

values_tagged : (ss : List Seen) → values_of (map (λ s. (s.key, s)) ss) ≡ ss
values_tagged [] = refl
values_tagged (s ∷ ss) = ap (λ ts. s ∷ ts) (values_tagged ss)

pub kept_rising : (ss : List Seen) → ((k : ℕ) (d : Seen) → k + 1 < length ss → key_cmp (get_or ss k d).key (get_or ss (k + 1) d).key ≡ Less) → values_of (kept_by ss) ≡ ss
kept_rising ss h = ap values_of (folds_all nat_list_cmp_total (λ s. (s.key, s)) (λ es s. seen_too s.key s.old s.new es) next ss h) ∙ values_tagged ss
  where
    next : (es : List (Key × Seen)) (s : Seen) → AllByRecursion (λ e. key_cmp e.0 s.key ≡ Less) es → seen_too s.key s.old s.new es ≡ es ++ (s.key, s) ∷ []
    next es s b =
        (λ i. map_of.put key_cmp s.key (record { key = s.key; old = option_map_or (λ (x : Seen). x.old) (none_behind nat_list_cmp_total s.key es b i) s.old; new = s.new }) es)
        ∙ put_behind nat_list_cmp_total s.key s es b

pub keeps_alike : (f g d h : Values) (es : List (Key × Seen)) → ((j : Key) → d j ≡ f j) → ((j : Key) → h j ≡ g j) → KeepsSeen f g es → KeepsSeen d h es
keeps_alike f g d h es was is kept = record { rises = kept.rises; each = λ k. at k (find key_cmp k es) (kept.each k) }
  where
    at : (k : Key) (o : Option Seen) → IsKeptBy f g k o → IsKeptBy d h k o
    at k None e = is k ∙ e ∙ sym (was k)
    at k (Some s) e = e ∙ (λ i. record { key = k; old = sym (was k) i; new = sym (is k) i })

keeps_same : (f g h : Values) (es : List (Key × Seen)) → ((j : Key) → h j ≡ g j) → KeepsSeen f g es → KeepsSeen f h es
keeps_same f g h es same kept = keeps_alike f g f h es (λ j. refl) same kept

-- ---- something else under one key more

module _ (f g : Values) (k : Key) (n : Option PathTree) (es : List (Key × Seen)) (h : KeepsSeen f g es) where
  one : Seen
  one = record { key = k; old = option_map_or (λ (s : Seen). s.old) (find key_cmp k es) (g k); new = n }

  own : one ≡ seen_at f (set_at k n g) k
  unfolding one
  own =
      let old = first_old (find key_cmp k es) (h.each k) in
      let new : n ≡ set_at k n g k = sym (ap (λ b. cond b n (g k)) (key_eq-same k)) in
      λ i. record { key = k; old = old i; new = new i }
    where
      first_old : (o : Option Seen) → IsKeptBy f g k o → option_map_or (λ (s : Seen). s.old) o (g k) ≡ f k
      first_old None e = e
      first_old (Some s) e = ap (λ (y : Seen). y.old) e

  other : (j : Key) → key_eq k j ≡ false → (o : Option Seen) → IsKeptBy f g j o → IsKeptBy f (set_at k n g) j o
  other j e None is = ap (λ b. cond b n (g j)) e ∙ is
  other j e (Some s) is =
      let same : g j ≡ set_at k n g j = sym (ap (λ b. cond b n (g j)) e) in
      is ∙ (λ i. record { key = j; old = f j; new = same i })

  pub keeps_put : KeepsSeen f (set_at k n g) (seen_too k (g k) n es)
  unfolding one
  keeps_put = record {
    rises = is_sorted-put key_cmp nat_list_cmp_total k one es h.rises;
    each = λ j. subst (IsKeptBy f (set_at k n g) j) (sym (find-put key_cmp nat_list_cmp_total j k one es)) (at j);
  }
    where
      at : (j : Key) → IsKeptBy f (set_at k n g) j (cond (key_eq j k) (Some one) (find key_cmp j es))
      at j = elim (key_eq j k) as (λ b. key_eq j k ≡ b → IsKeptBy f (set_at k n g) j (cond b (Some one) (find key_cmp j es))) [
        | true ↦ λ e. subst (λ (i : Key). IsKeptBy f (set_at k n g) i (Some one)) (sym (key_eq-is j k e)) own
        | false ↦ λ e. other j (key_eq-symm k j ∙ e) (find key_cmp j es) (h.each j)
      ] refl

-- a child is put into a tree
pub keeps_stands : (f : Values) (t u : PathTree) (k : Key) (v : PathTree) (es : List (Key × Seen)) → u ≡ put t (k ∷ []) v
    → KeepsSeen f (stands_in t) es → KeepsSeen f (stands_in u) (seen_too k (stands_in t k) (non_null v) es)
keeps_stands f t u k v es is h =
    keeps_same f (set_at k (non_null v) (stands_in t)) (stands_in u) _ (λ j. ap (λ (x : PathTree). stands_in x j) is ∙ child_of-put t k j v) (keeps_put f (stands_in t) k (non_null v) es h)

-- ---- a child that left its place, and one that came there

kept_in : (f g : Values) (k : Key) (crossed : Option (Key × PathTree)) (es : List (Key × Seen)) → IfSome crossed (λ c. (g c.0 ≡ None) × (key_eq k c.0 ≡ false))
    → KeepsSeen f g es → KeepsSeen f (came_in crossed g) (seen_in crossed es)
kept_in f g k None es is h = h
kept_in f g k (Some c) es is h = subst (λ o. KeepsSeen f (set_at c.0 (Some c.1) g) (seen_too c.0 o (Some c.1) es)) is.0 (keeps_put f g c.0 (Some c.1) es h)

kept_out : (f g : Values) (crossed : Option (Key × PathTree)) (es : List (Key × Seen)) → IfSome crossed (λ c. g c.0 ≡ Some c.1)
    → KeepsSeen f g es → KeepsSeen f (went_out crossed g) (seen_out crossed es)
kept_out f g None es is h = h
kept_out f g (Some c) es is h = subst (λ o. KeepsSeen f (set_at c.0 None g) (seen_too c.0 o None es)) is (keeps_put f g c.0 None es h)

-- one that crosses leaves the others as they are
still_in : (g : Values) (k : Key) (crossed : Option (Key × PathTree)) → IfSome crossed (λ c. (g c.0 ≡ None) × (key_eq k c.0 ≡ false)) → came_in crossed g k ≡ g k
still_in g k None is = refl
still_in g k (Some c) is = ap (λ b. cond b (Some c.1) (g k)) (key_eq-symm c.0 k ∙ is.1)

same_out : (g h : Values) (crossed : Option (Key × PathTree)) → ((j : Key) → g j ≡ h j) → (j : Key) → went_out crossed g j ≡ went_out crossed h j
same_out g h None same j = same j
same_out g h (Some c) same j = ap (cond (key_eq c.0 j) None) (same j)

out_at : (g h : Values) (crossed : Option (Key × PathTree)) → ((j : Key) → g j ≡ h j) → IfSome crossed (λ c. h c.0 ≡ Some c.1) → IfSome crossed (λ c. g c.0 ≡ Some c.1)
out_at g h None same is = is
out_at g h (Some c) same is = same c.0 ∙ is

module _ (f : Values) (q : Query) (k : Key) (o : Option PathTree) (u : PathTree) (left came : Turned) (before mid after : Entries)
    (leaves : Leaves q k o u left.was left.crossed before mid) (comes : Comes k u came.was came.is came.crossed mid after) (known : (x : PathTree) → value_at before k ≡ Some x → o ≡ Some x) where
  -- what was shown at the key
  was_there : cond (left.was || came.was) o None ≡ value_at before k
  was_there =
      elim left.was as (λ b. cond b o (value_at mid k) ≡ value_at before k → cond (b || came.was) o None ≡ value_at before k) [
        | true ↦ λ e. e
        | false ↦ λ e. at (value_at mid k) came.was comes.own e known
      ] leaves.own
    where
      at : (v : Option PathTree) (b : Bool) → b ≡ is_some v → v ≡ value_at before k → ((x : PathTree) → value_at before k ≡ Some x → o ≡ Some x) → cond b o None ≡ value_at before k
      at None b e is g = ap (λ c. cond c o None) e ∙ is
      at (Some x) b e is g = ap (λ c. cond c o None) e ∙ g x (sym is) ∙ is

  under : (j : Key) → set_at k (shown_if came.is u) (came_in left.crossed (value_at before)) j ≡ set_at k (shown_if came.is u) (value_at mid) j
  under j = elim (key_eq k j) as (λ b. key_eq k j ≡ b → cond b (shown_if came.is u) (came_in left.crossed (value_at before) j) ≡ cond b (shown_if came.is u) (value_at mid j)) [
    | true ↦ λ e. refl
    | false ↦ λ e. sym (leaves.others j e)
  ] refl

  pub keeps_turned : (es : List (Key × Seen)) → KeepsSeen f (value_at before) es → KeepsSeen f (value_at after) (seen_turned k o u left came es)
  keeps_turned es h =
      let between : Values = came_in left.crossed (value_at before) in
      let n = shown_if came.is u in
      let one = kept_in f (value_at before) k left.crossed es leaves.apart h in
      let old : between k ≡ cond (left.was || came.was) o None = still_in (value_at before) k left.crossed leaves.apart ∙ sym was_there in
      let two : KeepsSeen f (set_at k n between) (seen_too k (cond (left.was || came.was) o None) n (seen_in left.crossed es)) =
      subst (λ x. KeepsSeen f (set_at k n between) (seen_too k x n (seen_in left.crossed es))) old (keeps_put f between k n (seen_in left.crossed es) one) in
      let three = kept_out f (set_at k n between) came.crossed (seen_too k (cond (left.was || came.was) o None) n (seen_in left.crossed es))
      (out_at (set_at k n between) (set_at k n (value_at mid)) came.crossed under comes.apart) two in
      keeps_same f (went_out came.crossed (set_at k n between)) (value_at after) (seen_turned k o u left came es)
      (λ j. comes.all j ∙ sym (same_out (set_at k n between) (set_at k n (value_at mid)) came.crossed under j)) three

-- ---- all that is kept

apart : (j k : Key) → T (is_lt (key_cmp j k)) → key_eq k j ≡ false
apart j k h = key_eq-symm k j ∙ at (key_cmp j k) h
  where
    at : (o : Ordering) → T (is_lt o) → is_eq o ≡ false
    at Less p = refl
    at Equal p = absurd p
    at Greater p = refl

-- each is found by its key
abbrev Found : List (Key × Seen) → List (Key × Seen) → Type 0
Found all es = AllByRecursion (λ e. find key_cmp e.0 all ≡ Some e.1) es

found_behind : (x : Key × Seen) (all es : List (Key × Seen)) → T (below_all key_cmp x.0 es) → Found all es → Found (x ∷ all) es
found_behind x all [] h g = tt
found_behind x all (e ∷ es) h g = (
  ap (λ b. cond b (Some x.1) (find key_cmp e.0 all)) (apart x.0 e.0 (first _ _ h)) ∙ g.0,
  found_behind x all es (second (is_lt (key_cmp x.0 e.0)) _ h) g.1,
)

found_all : (es : List (Key × Seen)) → T (is_sorted key_cmp es) → Found es es
found_all [] h = tt
found_all (x ∷ es) h = (
  ap (λ b. cond b (Some x.1) (find key_cmp x.0 es)) (key_eq-same x.0),
  found_behind x es es (first _ _ h) (found_all es (second (below_all key_cmp x.0 es) _ h)),
)

abbrev Each : Values → Values → List (Key × Seen) → Type 0
Each f g es = AllByRecursion (λ e. e.1 ≡ seen_at f g e.0) es

each_kept : (f g : Values) (all es : List (Key × Seen)) → ((k : Key) → IsKeptBy f g k (find key_cmp k all)) → Found all es → Each f g es
each_kept f g all [] h found = tt
each_kept f g all (e ∷ es) h found = (subst (IsKeptBy f g e.0) found.0 (h e.0), each_kept f g all es h found.1)

either : (a b : Bool) → (a || b) ≡ false → (a ≡ false) × (b ≡ false)
either true b h = cc
either false b h = (refl, h)

-- a key that isn't noted has none
absent : (f g : Values) (es : List (Key × Seen)) → Each f g es → (k : Key) → is_noted (keys_in (values_of es)) k ≡ false → find key_cmp k es ≡ None
absent f g [] h k e = refl
absent f g (x ∷ es) h k e =
    let parts = either (key_eq x.1.key k) (is_noted (keys_in (values_of es)) k) e in
    let other : key_eq k x.0 ≡ false = key_eq-symm k x.0 ∙ ap (λ (s : Seen). key_eq s.key k) (sym h.0) ∙ parts.0 in
    ap (λ b. cond b (Some x.1) (find key_cmp k es)) other ∙ absent f g es h.1 k parts.1

all_of_each : (before after : Entries) (es : List (Key × Seen)) → Each (value_at before) (value_at after) es → All (IsSeenOf before after) (values_of es)
all_of_each before after [] h = All-nil (IsSeenOf before after)
all_of_each before after (x ∷ es) h = All-cons (IsSeenOf before after) x.1 (values_of es) (subst (IsSeenOf before after) (sym h.0) refl) (all_of_each before after es h.1)

pub keeps_all : (before after : Entries) (es : List (Key × Seen)) → KeepsSeen (value_at before) (value_at after) es → AllSeen before after (values_of es)
keeps_all before after es h =
    let each = each_kept (value_at before) (value_at after) es es h.each (found_all es h.rises) in
    record {
      each = all_of_each before after es each;
      notes = λ k e. (refl, subst (IsKeptBy (value_at before) (value_at after) k) (absent (value_at before) (value_at after) es each k e) (h.each k));
    }

-- what was shown of a tree
pub are_seen : (index : Index) (t : PathTree) (before after : Entries) (seen : List Seen) → AllSeen before after seen
    → ((k : Key) → value_at before k ≡ child_of (children_of t) k) → AreSeen index t after seen
are_seen index t before after seen h of_tree = record {
  each = All-weaker (IsSeenOf before after) (IsSeen t after) (λ s e. (ap (λ (y : Seen). y.old) e ∙ of_tree s.key, ap (λ (y : Seen). y.new) e)) seen h.each;
  notes = λ k e. (refl, (h.notes k e).1 ∙ of_tree k ∙ sym (value_at-children index t k));
}

pub all_new : (t : PathTree) (shown : Entries) (seen : List Seen) → All (IsSeen t shown) seen → All (IsNew shown) seen
all_new t shown seen h = All-weaker (IsSeen t shown) (IsNew shown) (λ s e. e.1) seen h

-- what is shown fits
pub all_fit : (q : Query) (t u : PathTree) (w : OrderedChildren) (seen : List Seen) → IsAllowed u → IsWindowOf q u w → All (IsSeen t (entries_shown q u)) seen → All IsFit seen
all_fit q t u w seen allowed kept h = All-weaker (IsSeen t (entries_shown q u)) IsFit (λ s e. fit s.key s.new e.1) seen h
  where
    fit : (k : Key) (o : Option PathTree) → o ≡ value_at (entries_shown q u) k → IfSome o (λ x. (is_null x ≡ false) × (levels x ≤ 32))
    fit k None e = tt
    fit k (Some v) e = child_fits u k v allowed (shown_known q u w k v kept (ap (λ (es : Entries). value_at es k) (sym kept.cut.cut) ∙ sym e)).0

-- ---- what is noted in another order

-- what is kept by a key, with one note more
abbrev joined : Seen → Option Seen → Seen
joined s o = record { key = s.key; old = option_map_or (λ (x : Seen). x.old) o s.old; new = s.new }

abbrev kept_at : Key → List Seen → Option Seen → Option Seen
kept_at k [] o = o
kept_at k (s ∷ ss) o = kept_at k ss (cond (key_eq k s.key) (Some (joined s o)) o)

kept_more : (k : Key) (s : Seen) (es : List (Key × Seen)) → find key_cmp k (seen_too s.key s.old s.new es) ≡ cond (key_eq k s.key) (Some (joined s (find key_cmp k es))) (find key_cmp k es)
kept_more k s es =
    find-put key_cmp nat_list_cmp_total k s.key (joined s (find key_cmp s.key es)) es
    ∙ elim (key_eq k s.key) as (λ b. key_eq k s.key ≡ b → cond b (Some (joined s (find key_cmp s.key es))) (find key_cmp k es) ≡ cond b (Some (joined s (find key_cmp k es))) (find key_cmp k es)) [
      | true ↦ λ e. ap (λ (j : Key). Some (joined s (find key_cmp j es))) (sym (key_eq-is k s.key e))
      | false ↦ λ e. refl
    ] refl

find_kept : (k : Key) (ss : List Seen) (es : List (Key × Seen)) → find key_cmp k (fold (λ fs (s : Seen). seen_too s.key s.old s.new fs) es ss) ≡ kept_at k ss (find key_cmp k es)
find_kept k [] es = refl
find_kept k (s ∷ ss) es = find_kept k ss (seen_too s.key s.old s.new es) ∙ ap (kept_at k ss) (kept_more k s es)

-- what is noted under other keys doesn't matter
kept_filter : (k : Key) (ss : List Seen) (o : Option Seen) → kept_at k (filter (λ (s : Seen). key_eq k s.key) ss) o ≡ kept_at k ss o
kept_filter k [] o = refl
kept_filter k (s ∷ ss) o =
    let rest = filter (λ (t : Seen). key_eq k t.key) ss in
    elim (key_eq k s.key) as (λ b. key_eq k s.key ≡ b → kept_at k (cond b (s ∷ rest) rest) o ≡ kept_at k ss (cond b (Some (joined s o)) o)) [
      | true ↦ λ e. ap (λ b. kept_at k rest (cond b (Some (joined s o)) o)) e ∙ kept_filter k ss (Some (joined s o))
      | false ↦ λ e. kept_filter k ss o
    ] refl

kept_sorted : (ss : List Seen) (es : List (Key × Seen)) → T (is_sorted key_cmp es) → T (is_sorted key_cmp (fold (λ fs (s : Seen). seen_too s.key s.old s.new fs) es ss))
kept_sorted [] es h = h
kept_sorted (s ∷ ss) es h = kept_sorted ss (seen_too s.key s.old s.new es) (is_sorted-put key_cmp nat_list_cmp_total s.key (joined s (find key_cmp s.key es)) es h)

abbrev pub by_key : Seen → Seen → Bool
by_key a b = is_lt (key_cmp a.key b.key)

pub key_ranks : IsStrictWeakOrder by_key
key_ranks = ranks_by nat_list_cmp_total (λ (s : Seen). s.key)

tied_keys : (j k : Key) → (not (is_lt (key_cmp j k)) && not (is_lt (key_cmp k j))) ≡ key_eq j k
tied_keys j k = ap (λ o. not (is_lt (key_cmp j k)) && not (is_lt o)) (nat_list_cmp_total.antisymm k j) ∙ either_way (key_cmp j k)
  where
    either_way : (o : Ordering) → (not (is_lt o) && not (is_lt (ordering_reverse o))) ≡ is_eq o
    either_way Less = refl
    either_way Equal = refl
    either_way Greater = refl

-- the same is kept where what is noted under each key stands in the same order
pub kept_stable : (ss ts : List Seen) → IsStableBy by_key ss ts → kept_by ts ≡ kept_by ss
kept_stable ss ts h =
    same_entries key_cmp nat_list_cmp_total (λ j k e. key_eq-is j k (ap is_eq e)) (kept_by ts) (kept_by ss) (kept_sorted ts [] tt) (kept_sorted ss [] tt)
    (λ k. find_kept k ts [] ∙ sym (kept_filter k ts None) ∙ ap (λ (us : List Seen). kept_at k us None) (same k) ∙ kept_filter k ss None ∙ sym (find_kept k ss []))
  where
    same : (k : Key) → filter (λ (s : Seen). key_eq k s.key) ts ≡ filter (λ (s : Seen). key_eq k s.key) ss
    same k =
        let one : Seen = record { key = k; old = None; new = None } in
        (λ i. filter (λ (s : Seen). sym (tied_keys k s.key) i) ts) ∙ h one ∙ (λ i. filter (λ (s : Seen). tied_keys k s.key i) ss)
