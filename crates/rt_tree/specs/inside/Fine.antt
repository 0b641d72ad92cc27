-- What is made of leaves in order, none at a prefix of another's path, is so again: parts, puts,
-- and some children.
use Rattle.std.specs.Prelude.{◌≡◌, Bool, true, false, cond, not, ◌&&◌, ◌||◌, List, [], ◌∷◌, ◌++◌}
use Rattle.std.specs.Prelude.{Option, Some, None, is_some, refl}
use Rattle.std.proofs.Common.{sym, ap, subst, ◌∙◌, append_assoc, append-nil}
use lib.Dec.{T}
use Rattle.std.specs.Ordering.{is_lt}
use Rattle.std.specs.Option.{option_map_or, unwrap_or}
use Rattle.std.specs.Cmp.{tied_itself}
use Rattle.std.specs.FinMap.{find}
use Rattle.std.specs.FinMap.Entries.{is_sorted, below_all, is_sorted-put, is_sorted-where_key}
use Rattle.std.specs.FinMap.Entries.{find-put, find-where_key}
use Rattle.rt_tree.specs.Leaf.{LeafValue}
use Rattle.rt_tree.specs.Leaves.{Key, Path, path_cmp, path_eq, strip, Leaves, is_empty, get}
use Rattle.rt_tree.specs.Leaves.{are_apart, is_apart_from, stand_apart, is_fine, IsApart, sub_entry}
use Rattle.rt_tree.specs.Leaves.{sub_entries, in_order, sub_leaves, stays, graft, put_leaves}
use Rattle.rt_tree.specs.Leaves.{after_put, is_within, within_leaves}
use Rattle.rt_tree.specs.laws.Prefixes.{paths_total, exact_paths, path_eq-append, path_eq-same}
use Rattle.rt_tree.specs.laws.Prefixes.{path_eq-symm, path_eq-is, strip-append, strip-more}
use Rattle.rt_tree.specs.laws.Prefixes.{strip-crossed, strip-some}

-- the first, or else the second
abbrev option_or : {A : Type 0} → Option A → Option A → Option A
option_or None o = o
option_or (Some x) o = Some x

or_none : {A : Type 0} (o : Option A) → option_or o None ≡ o
or_none None = refl
or_none (Some x) = refl

-- what shows was there
pub shown : {A : Type 0} (b : Bool) (o : Option A) (x : A) → cond b None o ≡ Some x → o ≡ Some x
shown true o x e = cc
shown false o x e = e

turned : {A : Type 0} (n s : Bool) (o : Option A) → cond (n || not s) o None ≡ cond (not n && s) None o
turned true s o = refl
turned false true o = refl
turned false false o = refl

pub both : (a b : Bool) → T a → T b → T (a && b)
both true b p q = q
both false b p q = p

pub first : (a b : Bool) → T (a && b) → T a
first true b p = tt
first false b p = p

pub second : (a b : Bool) → T (a && b) → T b
second true b p = p
second false b p = absurd p

-- ---- the test, and what it tells
apart_at : (x : Path) (es : Leaves) → T (is_apart_from x es) → (q : Path) (l : LeafValue)
    → get es q ≡ Some l → T (are_apart x q)
apart_at x [] h q l e = cc
apart_at x (f ∷ es) h q l e =
    elim (path_eq q f.0) as (λ b. path_eq q f.0 ≡ b → cond b (Some f.1) (get es q) ≡ Some l
    → T (are_apart x q)) [
      | true ↦ λ t g. subst (λ z. T (are_apart x z)) (sym (path_eq-is q f.0 t))
          (first (are_apart x f.0) _ h)
      | false ↦ λ t g. apart_at x es (second (are_apart x f.0) _ h) q l g
    ] refl e

not_under : (p q : Path) → T (are_apart p (p ++ q)) → ⊥
not_under p q h = subst (λ o. T (not (is_some o) && not (is_some (strip (p ++ q) p))))
    (strip-append p q) h

not_above : (p q : Path) → T (are_apart (p ++ q) p) → ⊥
not_above p q h =
    subst (λ o. T (not (is_some o))) (strip-append p q) (second (not (is_some (strip (p ++ q) p))) _ h)

ends : (p q : Path) → p ++ q ≡ p → q ≡ []
ends p q e =
    ap (λ o. unwrap_or o []) (sym (strip-append p q) ∙ ap (strip p) (e ∙ sym (append-nil p))
    ∙ strip-append p [])

-- what passes the test has no path that is a proper prefix of another
pub apart_of : (m : Leaves) → T (stand_apart m) → IsApart m
apart_of [] h p q l n e f = cc
apart_of (x ∷ m) h p q l n e f =
    elim (path_eq p x.0) as (λ b. path_eq p x.0 ≡ b → cond b (Some x.1) (get m p) ≡ Some l → q ≡ []) [
      | true ↦ λ s g. elim (path_eq (p ++ q) x.0) as (λ b. path_eq (p ++ q) x.0 ≡ b
          → cond b (Some x.1) (get m (p ++ q)) ≡ Some n → q ≡ []) [
            | true ↦ λ t i. ends p q (path_eq-is (p ++ q) x.0 t ∙ sym (path_eq-is p x.0 s))
            | false ↦ λ t i. absurd (not_under p q
                (subst (λ z. T (are_apart z (p ++ q))) (sym (path_eq-is p x.0 s))
                (apart_at x.0 m (first _ _ h) (p ++ q) n i)))
          ] refl f
      | false ↦ λ s g. elim (path_eq (p ++ q) x.0) as (λ b. path_eq (p ++ q) x.0 ≡ b
          → cond b (Some x.1) (get m (p ++ q)) ≡ Some n → q ≡ []) [
            | true ↦ λ t i. absurd (not_above p q
                (subst (λ z. T (are_apart z p)) (sym (path_eq-is (p ++ q) x.0 t))
                (apart_at x.0 m (first _ _ h) p l g)))
            | false ↦ λ t i. apart_of m (second (is_apart_from x.0 m) _ h) p q l n g i
          ] refl f
    ] refl e

-- a leaf of a list in order is found
found_here : (e : Path × LeafValue) (es : Leaves) → get (e ∷ es) e.0 ≡ Some e.1
found_here e es = ap (λ b. cond b (Some e.1) (get es e.0)) (path_eq-same e.0)

Finds : Leaves → Leaves → Type 0
Finds fs es = (q : Path) → is_some (get fs q) ≡ true → is_some (get es q) ≡ true

finds_tail : (f : Path × LeafValue) (fs es : Leaves) → Finds (f ∷ fs) es → Finds fs es
unfolding Finds
finds_tail f fs es h q e =
    h q (elim (path_eq q f.0) as (λ b. is_some (cond b (Some f.1) (get fs q))
    ≡ true) [ true ↦ refl | false ↦ e ])

the_leaf : (o : Option LeafValue) → is_some o ≡ true → (l : LeafValue) × (o ≡ Some l)
the_leaf None e = cc
the_leaf (Some l) e = (l, refl)

none_none : (a b : Option Path) → (((r : Path) → a ≡ Some r → ⊥)) → ((r : Path) → b ≡ Some r → ⊥)
    → T (not (is_some a) && not (is_some b))
none_none None None f g = tt
none_none None (Some r) f g = absurd (g r refl)
none_none (Some r) b f g = absurd (f r refl)

below_not : (p q : Path) → T (is_lt (path_cmp p q)) → p ≡ q → ⊥
below_not p q h e = subst (λ o. T (is_lt o)) (ap (path_cmp p) (sym e) ∙ tied_itself paths_total p) h

apart_from_all : (es : Leaves) → IsApart es → (x : Path) → is_some (get es x) ≡ true
    → (fs : Leaves) → T (below_all path_cmp x fs) → Finds fs es → T (is_apart_from x fs)
unfolding Finds
apart_from_all es h x is [] below finds = tt
apart_from_all es h x is (f ∷ fs) below finds =
    let here : is_some (get es f.0) ≡ true = finds f.0 (ap is_some (found_here f fs)) in
    let less : T (is_lt (path_cmp x f.0)) = first _ _ below in
    let at_x = the_leaf _ is in
    let at_f = the_leaf _ here in
    both (are_apart x f.0) _
    (none_none (strip x f.0) (strip f.0 x)
    (λ r e.
    let same : f.0 ≡ x ++ r = strip-some x f.0 r e in
    let nil : r ≡ [] = h x r at_x.0 at_f.0 at_x.1 (ap (get es) (sym same) ∙ at_f.1) in
    below_not x f.0 less (sym (same ∙ ap (λ z. x ++ z) nil ∙ append-nil x)))
    (λ r e.
    let same : x ≡ f.0 ++ r = strip-some f.0 x r e in
    let nil : r ≡ [] = h f.0 r at_f.0 at_x.0 at_f.1 (ap (get es) (sym same) ∙ at_x.1) in
    below_not x f.0 less (same ∙ ap (λ z. f.0 ++ z) nil ∙ append-nil f.0)))
    (apart_from_all es h x is fs (second (is_lt (path_cmp x f.0)) _ below) (finds_tail f fs es finds))

all_apart : (es : Leaves) → IsApart es → (fs : Leaves) → T (is_sorted path_cmp fs) → Finds fs es
    → T (stand_apart fs)
unfolding Finds
all_apart es h [] sorted finds = tt
all_apart es h (f ∷ fs) sorted finds =
    both _ _ (apart_from_all es h f.0 (finds f.0 (ap is_some (found_here f fs))) fs
    (first _ _ sorted) (finds_tail f fs es finds))
    (all_apart es h fs (second (below_all path_cmp f.0 fs) _ sorted) (finds_tail f fs es finds))

-- what is in order and has no path that is a proper prefix of another passes the test
pub fine_of : (m : Leaves) → T (is_sorted path_cmp m) → IsApart m → T (is_fine m)
unfolding Finds
fine_of m sorted h = both _ _ sorted (all_apart m h m sorted (λ q e. e))

pub sorted_fine : (m : Leaves) → T (is_fine m) → T (is_sorted path_cmp m)
sorted_fine m h = first _ _ h

pub apart_fine : (m : Leaves) → T (is_fine m) → IsApart m
apart_fine m h = apart_of m (second (is_sorted path_cmp m) _ h)

-- ---- parts
find-sub_entries : (p q : Path) (es : List (Path × LeafValue))
    → find path_cmp q (sub_entries p es) ≡ find path_cmp (p ++ q) es
find-sub_entries p q [] = refl
find-sub_entries p q (e ∷ es) =
    elim (strip p e.0) as (λ o. find path_cmp q (sub_entry o e.1 (sub_entries p es))
    ≡ cond (option_map_or (path_eq q) o false) (Some e.1) (find path_cmp (p ++ q) es)) [
      | None ↦ find-sub_entries p q es
      | Some r ↦ ap (cond (path_eq q r) (Some e.1)) (find-sub_entries p q es)
    ]
    ∙ ap (λ b. cond b (Some e.1) (find path_cmp (p ++ q) es)) (sym (path_eq-append p q e.0))

sorted-in_order : (es : Leaves) → T (is_sorted path_cmp (in_order es))
sorted-in_order [] = tt
sorted-in_order (e ∷ es) = is_sorted-put path_cmp paths_total e.0 e.1 (in_order es) (sorted-in_order es)

get-in_order : (es : Leaves) (q : Path) → get (in_order es) q ≡ get es q
get-in_order [] q = refl
get-in_order (e ∷ es) q =
    find-put path_cmp paths_total q e.0 e.1 (in_order es)
    ∙ ap (cond (path_eq q e.0) (Some e.1)) (get-in_order es q)

pub get-sub_leaves : (m : Leaves) (p q : Path) → get (sub_leaves m p) q ≡ get m (p ++ q)
get-sub_leaves m p q = get-in_order (sub_entries p m) q ∙ find-sub_entries p q m

sub_apart : (m : Leaves) → T (is_fine m) → (p : Path) → IsApart (sub_leaves m p)
sub_apart m h p q r l n e f =
    apart_fine m h (p ++ q) r l n (sym (get-sub_leaves m p q) ∙ e)
    (ap (get m) (append_assoc p q r) ∙ sym (get-sub_leaves m p (q ++ r)) ∙ f)

pub sub_fine : (m : Leaves) → T (is_fine m) → (p : Path) → T (is_fine (sub_leaves m p))
sub_fine m h p = fine_of _ (sorted-in_order (sub_entries p m)) (sub_apart m h p)

-- ---- puts
pub not_empty_of_leaf : (m : Leaves) (q : Path) (l : LeafValue) → get m q ≡ Some l → is_empty m ≡ false
not_empty_of_leaf [] q l e = cc
not_empty_of_leaf (x ∷ m) q l e = refl

sorted-graft : (p : Path) (es m : Leaves) → T (is_sorted path_cmp m)
    → T (is_sorted path_cmp (graft p es m))
sorted-graft p [] m h = h
sorted-graft p (e ∷ es) m h =
    is_sorted-put path_cmp paths_total (p ++ e.0) e.1 (graft p es m) (sorted-graft p es m h)

get-graft : (p : Path) (es : List (Path × LeafValue)) (m : Leaves) (q : Path)
    → get (graft p es m) q ≡ option_map_or (λ r. option_or (find path_cmp r es) (get m q))
    (strip p q) (get m q)
get-graft p [] m q =
    elim (strip p q) as (λ o. get m q
    ≡ option_map_or (λ r. get m q) o (get m q)) [ None ↦ refl | Some r ↦ refl ]
get-graft p (e ∷ es) m q =
    find-put path_cmp paths_total q (p ++ e.0) e.1 (graft p es m)
    ∙ ap (λ b. cond b (Some e.1) (get (graft p es m) q)) (path_eq-symm q (p ++ e.0)
    ∙ path_eq-append p e.0 q)
    ∙ ap (cond (option_map_or (path_eq e.0) (strip p q) false) (Some e.1)) (get-graft p es m q)
    ∙ elim (strip p q) as (λ o. cond (option_map_or (path_eq e.0) o false) (Some e.1)
    (option_map_or (λ r. option_or (find path_cmp r es) (get m q)) o (get m q))
    ≡ option_map_or (λ r. option_or (cond (path_eq r e.0) (Some e.1) (find path_cmp r es))
    (get m q)) o (get m q)) [
      | None ↦ refl
      | Some r ↦ ap (λ b. cond b (Some e.1) (option_or (find path_cmp r es) (get m q)))
          (path_eq-symm e.0 r)
          ∙ elim (path_eq r e.0) as (λ b. cond b (Some e.1)
          (option_or (find path_cmp r es) (get m q))
          ≡ option_or (cond b (Some e.1) (find path_cmp r es)) (get m q))
          [ true ↦ refl | false ↦ refl ]
    ]

pub get-put_leaves : (m : Leaves) (p : Path) (u : Leaves) (n : Bool) (q : Path)
    → get (put_leaves m p u n) q ≡ after_put (strip p q) (get u) (not n && is_some (strip q p))
    (get m q)
get-put_leaves m p u n q =
    get-graft p u _ q
    ∙ ap (λ l. option_map_or (λ r. option_or (find path_cmp r u) l) (strip p q) l)
    (find-where_key path_cmp (stays p n) q (λ x e. ap (stays p n) (sym (exact_paths q x e))) m)
    ∙ elim (strip p q) as (λ o. option_map_or
    (λ r. option_or (find path_cmp r u)
    (cond (not (is_some o) && (n || not (is_some (strip q p)))) (get m q) None)) o
    (cond (not (is_some o) && (n || not (is_some (strip q p)))) (get m q) None)
    ≡ after_put o (get u) (not n && is_some (strip q p)) (get m q)) [
      | None ↦ turned n (is_some (strip q p)) (get m q)
      | Some r ↦ or_none (find path_cmp r u)
    ]

-- no path of the outcome is a proper prefix of another
module _ (m : Leaves) (p : Path) (u : Leaves) (fine_m : T (is_fine m)) (fine_u : T (is_fine u)) where
  put_apart_at : (a b : Path) (x y : LeafValue) (o c : Option Path)
      → strip p a ≡ o → strip p (a ++ b) ≡ c
      → after_put o (get u) (not (is_empty u) && is_some (strip a p)) (get m a) ≡ Some x
      → after_put c (get u) (not (is_empty u) && is_some (strip (a ++ b) p)) (get m (a ++ b)) ≡ Some y
      → b ≡ []
  put_apart_at a b x y (Some r) c is also e f =
      let below : c ≡ Some (r ++ b) = sym also ∙ strip-more p a r b is in
      apart_fine u fine_u r b x y e (subst
      (λ d. after_put d (get u) (not (is_empty u) && is_some (strip (a ++ b) p))
      (get m (a ++ b)) ≡ Some y) below f)
  put_apart_at a b x y None (Some r) is also e f =
      let full : is_empty u ≡ false = not_empty_of_leaf u r y f in
      let hidden : is_some (strip a p) ≡ true = strip-crossed p a r b is also in
      cc (ap (λ s. cond s None (get m a)) hidden)
  put_apart_at a b x y None None is also e f =
      apart_fine m fine_m a b x y (shown _ _ x e) (shown _ _ y f)

  put_apart : IsApart (put_leaves m p u (is_empty u))
  put_apart a b x y e f =
      put_apart_at a b x y (strip p a) (strip p (a ++ b)) refl refl
      (sym (get-put_leaves m p u (is_empty u) a) ∙ e)
      (sym (get-put_leaves m p u (is_empty u) (a ++ b)) ∙ f)

pub put_fine : (m : Leaves) (p : Path) (u : Leaves) → T (is_fine m) → T (is_fine u)
    → T (is_fine (put_leaves m p u (is_empty u)))
put_fine m p u h g =
    fine_of _ (sorted-graft p u _ (is_sorted-where_key path_cmp (stays p (is_empty u)) m
    (sorted_fine m h))) (put_apart m p u h g)

-- ---- some children
pub get-within_leaves : (test : Key → Bool) (m : Leaves) (q : Path)
    → get (within_leaves test m) q ≡ cond (is_within test q) (get m q) None
get-within_leaves test m q =
    find-where_key path_cmp (is_within test) q (λ x e. ap (is_within test) (sym (exact_paths q x e))) m

passed : {A : Type 0} (b : Bool) (o : Option A) (x : A) → cond b o None ≡ Some x → o ≡ Some x
passed true o x e = e
passed false o x e = cc

within_apart : (test : Key → Bool) (m : Leaves) → T (is_fine m) → IsApart (within_leaves test m)
within_apart test m h p q l n e f =
    apart_fine m h p q l n (passed (is_within test p) _ l (sym (get-within_leaves test m p) ∙ e))
    (passed (is_within test (p ++ q)) _ n (sym (get-within_leaves test m (p ++ q)) ∙ f))

pub within_fine : (test : Key → Bool) (m : Leaves) → T (is_fine m) → T (is_fine (within_leaves test m))
within_fine test m h =
    fine_of _ (is_sorted-where_key path_cmp (is_within test) m (sorted_fine m h))
    (within_apart test m h)
