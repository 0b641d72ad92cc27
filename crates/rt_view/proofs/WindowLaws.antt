-- The parts of a list of children that rises: one of them between others, one that is taken out, and what lies below it.
use Rattle.std.specs.Prelude.{T}
use Rattle.std.proofs.Common.{◌≡◌, Bool, true, false, cond, not, [], ◌∷◌, ◌++◌, map, refl, sym, ap, subst, ◌∙◌, Option, Some, None, is_some}
use Rattle.std.specs.declared.cmp.Ordering.{Ordering}
use Rattle.std.specs.declared.cmp.Ordering.TheVariants.{Less, Equal, Greater}
use Rattle.std.specs.Ordering.{is_lt, is_eq, eq_by_cmp, ordering_reverse}
use Rattle.std.specs.Cmp.{tied_itself, Equal-is}
use Rattle.std.specs.List.{AllByRecursion}
use Rattle.std.specs.Map.{remove_entry, lookup}
use Rattle.std.specs.BTreeMap.{is_at}
use Rattle.std.specs.FinMap as map_of
use Rattle.std.specs.FinMap.Entries.{by_order, find, is_sorted, below_all, is_sorted-put, is_sorted-where_key, find-put, find-where_key, same_entries}
use Rattle.rt_tree.specs.PathTree.{Key, PathTree, key_eq, both, first, second}
use Rattle.rt_order.specs.Entries.{Entry, entry_cmp}
use Rattle.rt_order.specs.laws.EntryOrder.{entry_cmp_total, entry_cmp-IsAntisymmetric}
use Rattle.rt_query.specs.declared.query.Limit.{Limit}
use Rattle.rt_query.specs.declared.query.Limit.TheVariants.{First, Last}
use Rattle.rt_query.specs.Select.{row_of}
use Rattle.rt_view.specs.inside.Windows.{Entries, IsWindow, is_there, without, value_at, last_key}
use Rattle.rt_view.proofs.ReplayLaws.{row_at-cons}

abbrev puts : Entry → PathTree → Entries → Entries
puts e v es = map_of.put entry_cmp e v es

less : (o : Ordering) → T (is_lt o) → o ≡ Less
less Less p = refl
less Equal p = absurd p
less Greater p = absurd p

pub below_of : (e x : Entry) → T (is_lt (entry_cmp e x)) → entry_cmp e x ≡ Less
below_of e x h = less (entry_cmp e x) h

-- ---- parts of a list that rises
below_append-left : (e : Entry) (s r : Entries) → T (below_all entry_cmp e (s ++ r)) → T (below_all entry_cmp e s)
below_append-left e [] r h = tt
below_append-left e (x ∷ s) r h = both _ _ (first _ _ h) (below_append-left e s r (second (is_lt (entry_cmp e x.0)) _ h))

below_append-right : (e : Entry) (s r : Entries) → T (below_all entry_cmp e (s ++ r)) → T (below_all entry_cmp e r)
below_append-right e [] r h = h
below_append-right e (x ∷ s) r h = below_append-right e s r (second (is_lt (entry_cmp e x.0)) _ h)

pub sorted-left : (s r : Entries) → T (is_sorted entry_cmp (s ++ r)) → T (is_sorted entry_cmp s)
sorted-left [] r h = tt
sorted-left (x ∷ s) r h = both _ _ (below_append-left x.0 s r (first _ _ h)) (sorted-left s r (second (below_all entry_cmp x.0 (s ++ r)) _ h))

pub sorted-right : (s r : Entries) → T (is_sorted entry_cmp (s ++ r)) → T (is_sorted entry_cmp r)
sorted-right [] r h = h
sorted-right (x ∷ s) r h = sorted-right s r (second (below_all entry_cmp x.0 (s ++ r)) _ h)

pub turn : (a b : Entry) → entry_cmp a b ≡ Less → entry_cmp b a ≡ Greater
turn a b e = entry_cmp_total.antisymm b a ∙ ap ordering_reverse e

head_below : (y : Entry) (s : Entries) (x : Entry × PathTree) (r : Entries) → T (below_all entry_cmp y (s ++ x ∷ r)) → entry_cmp y x.0 ≡ Less
head_below y s x r h = less _ (first _ _ (below_append-right y s (x ∷ r) h))

-- what all of a list is below, where another list begins with it
abbrev pub Above : Entry → Entries → Type 0
Above e s = AllByRecursion (λ x. entry_cmp e x.0 ≡ Greater) s

pub above_head : (r : Entries) (p : Entry × PathTree) (t : Entries) → T (is_sorted entry_cmp (r ++ p ∷ t)) → Above p.0 r
above_head [] p t up = tt
above_head (x ∷ r) p t up = (turn x.0 p.0 (head_below x.0 r p t (first _ _ up)), above_head r p t (second (below_all entry_cmp x.0 (r ++ p ∷ t)) _ up))

-- ---- values under other keys

pub value_at-skip : (x : Entry × PathTree) (s : Entries) (k : Key) → key_eq x.0.1 k ≡ false → value_at (x ∷ s) k ≡ value_at s k
value_at-skip x s k h = row_at-cons (row_of x) (map row_of s) k ∙ ap (λ b. cond b (Some x.1) (value_at s k)) h

value_at-more : (x : Entry × PathTree) (s t : Entries) (k : Key) → value_at s k ≡ value_at t k → value_at (x ∷ s) k ≡ value_at (x ∷ t) k
value_at-more x s t k h = row_at-cons (row_of x) (map row_of s) k ∙ ap (cond (key_eq x.0.1 k) (Some x.1)) h ∙ sym (row_at-cons (row_of x) (map row_of t) k)

pub value_at-puts : (e : Entry) (v : PathTree) (s : Entries) (k : Key) → key_eq e.1 k ≡ false → value_at (puts e v s) k ≡ value_at s k
value_at-puts e v [] k h = value_at-skip (e, v) [] k h
value_at-puts e v (x ∷ s) k h =
    elim (entry_cmp e x.0) as (λ o. entry_cmp e x.0 ≡ o → value_at (by_order o ((e, v) ∷ x ∷ s) ((x.0, v) ∷ s) (x ∷ puts e v s)) k ≡ value_at (x ∷ s) k) [
      | Less ↦ λ t. value_at-skip (e, v) (x ∷ s) k h
      | Equal ↦ λ t.
          let other : key_eq x.0.1 k ≡ false = subst (λ (z : Entry). key_eq z.1 k ≡ false) (entry_cmp-IsAntisymmetric e x.0 t) h in
          value_at-skip (x.0, v) s k other ∙ sym (value_at-skip x s k other)
      | Greater ↦ λ t. value_at-more x (puts e v s) s k (value_at-puts e v s k h)
    ] refl

-- ---- without a child

pub without-below : (e : Entry) (s : Entries) → T (below_all entry_cmp e s) → without e s ≡ s
without-below e [] h = refl
without-below e (x ∷ s) h =
    ap (λ o. cond (not (is_eq o)) (x ∷ without e s) (without e s)) (less _ (first _ _ h)) ∙ ap (λ es. x ∷ es) (without-below e s (second (is_lt (entry_cmp e x.0)) _ h))

pub without-append : (e : Entry) (s r : Entries) → without e (s ++ r) ≡ without e s ++ without e r
without-append e [] r = refl
without-append e (x ∷ s) r =
    elim (eq_by_cmp entry_cmp e x.0) as (λ b. cond (not b) (x ∷ without e (s ++ r)) (without e (s ++ r)) ≡ cond (not b) (x ∷ without e s) (without e s) ++ without e r) [
      | true ↦ without-append e s r
      | false ↦ ap (λ es. x ∷ es) (without-append e s r)
    ]

pub same_entry : (e x : Entry) → eq_by_cmp entry_cmp e x ≡ true → e ≡ x
same_entry e x t = entry_cmp-IsAntisymmetric e x ((Equal-is (entry_cmp e x)).0 t)

-- what is put at an entry takes the place of what stands there
pub puts-without : (e : Entry) (v : PathTree) (s : Entries) → T (is_sorted entry_cmp s) → puts e v (without e s) ≡ puts e v s
puts-without e v s up =
    same_entries entry_cmp entry_cmp_total entry_cmp-IsAntisymmetric (puts e v (without e s)) (puts e v s)
    (is_sorted-put entry_cmp entry_cmp_total e v (without e s) (is_sorted-where_key entry_cmp other s up)) (is_sorted-put entry_cmp entry_cmp_total e v s up)
    (λ q. find-put entry_cmp entry_cmp_total q e v (without e s)
    ∙ elim (eq_by_cmp entry_cmp q e) as (λ b. eq_by_cmp entry_cmp q e ≡ b → cond b (Some v) (find entry_cmp q (without e s)) ≡ cond b (Some v) (find entry_cmp q s)) [
      | true ↦ λ t. refl
      | false ↦ λ t. find-where_key entry_cmp other q (alike q) s ∙ ap (λ c. cond (not c) (find entry_cmp q s) None) (apart q t)
    ] refl
    ∙ sym (find-put entry_cmp entry_cmp_total q e v s))
  where
    other : Entry → Bool
    other x = not (eq_by_cmp entry_cmp e x)

    alike : (q x : Entry) → entry_cmp q x ≡ Equal → other x ≡ other q
    alike q x t = ap other (sym (entry_cmp-IsAntisymmetric q x t))

    apart : (q : Entry) → eq_by_cmp entry_cmp q e ≡ false → eq_by_cmp entry_cmp e q ≡ false
    apart q t = elim (eq_by_cmp entry_cmp e q) as (λ b. eq_by_cmp entry_cmp e q ≡ b → b ≡ false) [
      | true ↦ λ f. cc (t, ap (λ (z : Entry). eq_by_cmp entry_cmp z e) (same_entry e q f), ap is_eq (tied_itself entry_cmp_total e))
      | false ↦ λ f. refl
    ] refl

pub remove_entry-without : (e : Entry) (s : Entries) → T (is_sorted entry_cmp s) → remove_entry (is_at (entry_cmp e)) s ≡ without e s
remove_entry-without e [] h = refl
remove_entry-without e (x ∷ s) h =
    elim (eq_by_cmp entry_cmp e x.0) as (λ b. eq_by_cmp entry_cmp e x.0 ≡ b → cond b s (x ∷ remove_entry (is_at (entry_cmp e)) s) ≡ cond (not b) (x ∷ without e s) (without e s)) [
      | true ↦ λ t. sym (without-below e s (subst (λ z. T (below_all entry_cmp z s)) (sym (same_entry e x.0 t)) (first _ _ h)))
      | false ↦ λ t. ap (λ es. x ∷ es) (remove_entry-without e s (second (below_all entry_cmp x.0 s) _ h))
    ] refl

pub without-missed : (e : Entry) (s : Entries) → is_some (lookup (is_at (entry_cmp e)) s) ≡ false → without e s ≡ s
without-missed e [] h = refl
without-missed e (x ∷ s) h =
    elim (eq_by_cmp entry_cmp e x.0) as (λ b. is_some (cond b (Some x.1) (lookup (is_at (entry_cmp e)) s)) ≡ false → cond (not b) (x ∷ without e s) (without e s) ≡ x ∷ s) [
      | true ↦ λ g. cc
      | false ↦ λ g. ap (λ es. x ∷ es) (without-missed e s g)
    ] h

-- ---- what is found at an entry

pub missed_below : (e : Entry) (s : Entries) → T (below_all entry_cmp e s) → is_there e s ≡ false
missed_below e [] h = refl
missed_below e (x ∷ s) h =
    ap (λ o. is_some (cond (is_eq o) (Some x.1) (lookup (is_at (entry_cmp e)) s))) (less _ (first _ _ h))
    ∙ missed_below e s (second (is_lt (entry_cmp e x.0)) _ h)

-- an entry of the first part lies below the second
pub hit_below : (e : Entry) (s r : Entries) → T (is_sorted entry_cmp (s ++ r)) → is_some (lookup (is_at (entry_cmp e)) s) ≡ true → T (below_all entry_cmp e r)
hit_below e [] r h f = cc
hit_below e (x ∷ s) r h f =
    elim (eq_by_cmp entry_cmp e x.0) as (λ b. eq_by_cmp entry_cmp e x.0 ≡ b → is_some (cond b (Some x.1) (lookup (is_at (entry_cmp e)) s)) ≡ true → T (below_all entry_cmp e r)) [
      | true ↦ λ t g. subst (λ z. T (below_all entry_cmp z r)) (sym (same_entry e x.0 t)) (below_append-right x.0 s r (first _ _ h))
      | false ↦ λ t g. hit_below e s r (second (below_all entry_cmp x.0 (s ++ r)) _ h) g
    ] refl f

-- a child between others is found, is taken out, and is put there
pub record IsBetween (xs : Entries) (p : Entry × PathTree) (ys : Entries) : Type 0 where
  pub found : find entry_cmp p.0 (xs ++ p ∷ ys) ≡ Some p.1
  pub gone : without p.0 (xs ++ p ∷ ys) ≡ xs ++ ys
  pub back : puts p.0 p.1 (xs ++ ys) ≡ xs ++ p ∷ ys

put_first : (p : Entry × PathTree) (ys : Entries) → T (below_all entry_cmp p.0 ys) → puts p.0 p.1 ys ≡ p ∷ ys
put_first p [] h = refl
put_first p (y ∷ ys) h = ap (λ o. by_order o (p ∷ y ∷ ys) ((y.0, p.1) ∷ ys) (y ∷ puts p.0 p.1 ys)) (less _ (first _ _ h))

pub between_parts : (xs : Entries) (p : Entry × PathTree) (ys : Entries) → T (is_sorted entry_cmp (xs ++ p ∷ ys)) → IsBetween xs p ys
between_parts [] p ys h =
    let below = first (below_all entry_cmp p.0 ys) _ h in
    let tied = tied_itself entry_cmp_total p.0 in
    record {
      found = ap (λ o. cond (is_eq o) (Some p.1) (find entry_cmp p.0 ys)) tied;
      gone = ap (λ o. cond (not (is_eq o)) (p ∷ without p.0 ys) (without p.0 ys)) tied ∙ without-below p.0 ys below;
      back = put_first p ys below;
    }
between_parts (x ∷ xs) p ys h =
    let rest = between_parts xs p ys (second (below_all entry_cmp x.0 (xs ++ p ∷ ys)) _ h) in
    let over = turn x.0 p.0 (head_below x.0 xs p ys (first _ _ h)) in
    record {
      found = ap (λ o. cond (is_eq o) (Some x.1) (find entry_cmp p.0 (xs ++ p ∷ ys))) over ∙ rest.found;
      gone = ap (λ o. cond (not (is_eq o)) (x ∷ without p.0 (xs ++ p ∷ ys)) (without p.0 (xs ++ p ∷ ys))) over ∙ ap (λ (es : Entries). x ∷ es) rest.gone;
      back = ap (λ o. by_order o (p ∷ x ∷ xs ++ ys) ((x.0, p.1) ∷ xs ++ ys) (x ∷ puts p.0 p.1 (xs ++ ys))) over ∙ ap (λ (es : Entries). x ∷ es) rest.back;
    }

-- ---- of a window

-- the two parts rise
pub parts_rise : (limit : Option Limit) (s r all : Entries) → IsWindow limit s r all → T (is_sorted entry_cmp s) × T (is_sorted entry_cmp r)
parts_rise None s r all w = let up = subst (λ es. T (is_sorted entry_cmp es)) (sym w.whole) w.rises in (sorted-left s r up, sorted-right s r up)
parts_rise (Some (First n)) s r all w = let up = subst (λ es. T (is_sorted entry_cmp es)) (sym w.whole) w.rises in (sorted-left s r up, sorted-right s r up)
parts_rise (Some (Last n)) s r all w = let up = subst (λ es. T (is_sorted entry_cmp es)) (sym w.whole) w.rises in (sorted-right r s up, sorted-left r s up)

pub last_key-push : (t : Entries) (x : Entry × PathTree) → last_key (t ++ x ∷ []) ≡ Some x.0.1
last_key-push [] x = refl
last_key-push (y ∷ []) x = refl
last_key-push (y ∷ z ∷ t) x = last_key-push (z ∷ t) x
