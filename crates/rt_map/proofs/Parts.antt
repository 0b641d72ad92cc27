-- What each call does to the parts.
use Rattle.std.proofs.Common.{◌≡◌, refl, sym, ap, ◌∙◌, subst, ℕ, zero, suc, ◌<◌, List, [], ◌∷◌, ◌++◌, length, take, drop, get_or, set, drop-cons, arith, append_assoc, true, false, ◌-◌, length-drop, take_all, length-take-le, length-append, ◌+◌, take-suc, add-one, cond, Bool, Option, None, Some}
use Rattle.std.specs.List.{insert, remove}
use Rattle.std.specs.Prelude.{is_some, IsErr, IsErrAnd, IfErr}
use Rattle.std.specs.Borrow.{MutBor, name_if_ok}
use borrow.Follows.Closed.{read_of}
use Rattle.std.specs.Option.{option_copied}
use denote.Bor.{Bor}
use Rattle.std.specs.BTreeMap.{insert_entry, is_at}
use Rattle.std.specs.Ordering.{is_lt, is_eq, match_ordering}
use Rattle.std.proofs.Common.{Result, Ok, Err, IfOk, OnOk, OnErr, ◌⊎◌, inl, inr}
use Rattle.std.specs.Cmp.{IsTotalOrder, tied_itself}
use mathlib.Core.List.{append-nil}
use Rattle.std.proofs.lemmas.List.{get_or-append-add}
use Rattle.std.proofs.lemmas.Map.Keys.{sorted_tail}
use Rattle.std.specs.Map.{keys_of, lookup, remove_entry, set_value}
use Rattle.std.specs.List.Sorted.{IsStrictlySortedBy}
use Rattle.std.specs.declared.cmp.Ordering.{Ordering}
use Rattle.std.specs.declared.cmp.Ordering.TheVariants.{Less, Equal, Greater}
use Rattle.rt_map.specs.declared.map.NoSlot.{NoSlot}
use Rattle.rt_map.specs.declared.map.NoSlot.TheVariants.{Absent, NoMemory}
use Rattle.rt_map.specs.inside.Places.{AllBelow, AllAbove, IsPart}
use Rattle.rt_map.proofs.Order.{below_before, above_after, sorted_left, sorted_right, below_at}
use Rattle.rt_map.proofs.Entries.{lookup_below, lookup_above, lookup_none, insert_below, insert_above, remove_below, remove_above, set_below, set_above}
use Rattle.std.specs.declared.sync.Arc.{Arc}
use Rattle.std.specs.declared.alloc.Global.{Global}
use Rattle.rt_map.specs.inside.Joined.{joined, AllFilled}

abbrev pub Part : Type 0 → Type 0
Part E = Arc (List E) Global

nothing : {X : Type 0} (xs : List X) → length xs ≡ 0 → xs ≡ []
nothing [] e = refl
nothing (x ∷ xs) e = absurd (omega arith)

module _ {E : Type 0} where
  pub joined-append : (as' bs : List (Part E)) → joined (as' ++ bs) ≡ joined as' ++ joined bs
  joined-append [] bs = refl
  joined-append (a ∷ as') bs = ap (λ l. a.value ++ l) (joined-append as' bs) ∙ sym (append_assoc a.value (joined as') (joined bs))

  -- the parts round one
  pub joined-around : (as' : List (Part E)) (i : ℕ) (d : Part E) → i < length as' → joined as' ≡ joined (take i as') ++ ((get_or as' i d).value ++ joined (drop (suc i) as'))
  joined-around [] i d h = absurd (omega arith)
  joined-around (a ∷ as') zero d h = refl
  joined-around (a ∷ as') (suc i) d h = ap (λ l. a.value ++ l) (joined-around as' i d (omega arith)) ∙ sym (append_assoc a.value (joined (take i as')) ((get_or as' i d).value ++ joined (drop (suc i) as')))

  pub AllFilled-get_or : (as' : List (Part E)) (i : ℕ) (d : Part E) → i < length as' → AllFilled as' → 0 < length (get_or as' i d).value
  AllFilled-get_or [] i d h f = absurd (omega arith)
  AllFilled-get_or (a ∷ as') zero d h f = f.0
  AllFilled-get_or (a ∷ as') (suc i) d h f = AllFilled-get_or as' i d (omega arith) f.1

  -- a part cut in two
  pub split-joined : (as' : List (Part E)) (i : ℕ) (d l r : Part E) → i < length as' → l.value ++ r.value ≡ (get_or as' i d).value → joined (set (insert as' (suc i) r) i l) ≡ joined as'
  split-joined [] i d l r h e = absurd (omega arith)
  split-joined (a ∷ as') zero d l r h e = sym (append_assoc l.value r.value (joined as')) ∙ ap (λ p. p ++ joined as') e
  split-joined (a ∷ as') (suc i) d l r h e = ap (λ p. a.value ++ p) (split-joined as' i d l r (omega arith) e)

  pub split-filled : (as' : List (Part E)) (i : ℕ) (l r : Part E) → i < length as' → 0 < length l.value → 0 < length r.value → AllFilled as' → AllFilled (set (insert as' (suc i) r) i l)
  split-filled [] i l r h p q f = absurd (omega arith)
  split-filled (a ∷ as') zero l r h p q f = (p, (q, f.1))
  split-filled (a ∷ as') (suc i) l r h p q f = (f.0, split-filled as' i l r (omega arith) p q f.1)

  -- a part in the place of another
  pub set-joined : (as' : List (Part E)) (i : ℕ) (b : Part E) → i < length as' → joined (set as' i b) ≡ joined (take i as') ++ (b.value ++ joined (drop (suc i) as'))
  set-joined [] i b h = absurd (omega arith)
  set-joined (a ∷ as') zero b h = refl
  set-joined (a ∷ as') (suc i) b h = ap (λ l. a.value ++ l) (set-joined as' i b (omega arith)) ∙ sym (append_assoc a.value (joined (take i as')) (b.value ++ joined (drop (suc i) as')))

  pub set-filled : (as' : List (Part E)) (i : ℕ) (b : Part E) → i < length as' → 0 < length b.value → AllFilled as' → AllFilled (set as' i b)
  set-filled [] i b h p f = absurd (omega arith)
  set-filled (a ∷ as') zero b h p f = (p, f.1)
  set-filled (a ∷ as') (suc i) b h p f = (f.0, set-filled as' i b (omega arith) p f.1)

  pub set-same : (as' : List (Part E)) (i : ℕ) (d b : Part E) → i < length as' → b.value ≡ (get_or as' i d).value → joined (set as' i b) ≡ joined as'
  set-same as' i d b h e = set-joined as' i b h ∙ ap (λ p. joined (take i as') ++ (p ++ joined (drop (suc i) as'))) e ∙ sym (joined-around as' i d h)

  -- a part that goes
  pub remove-set : (as' : List (Part E)) (i : ℕ) (b : Part E) → i < length as' → remove (set as' i b) i ≡ remove as' i
  remove-set [] i b h = absurd (omega arith)
  remove-set (a ∷ as') zero b h = refl
  remove-set (a ∷ as') (suc i) b h = ap (λ l. a ∷ l) (remove-set as' i b (omega arith))

  pub remove-filled : (as' : List (Part E)) (i : ℕ) → i < length as' → AllFilled as' → AllFilled (remove as' i)
  remove-filled [] i h f = absurd (omega arith)
  remove-filled (a ∷ as') zero h f = f.1
  remove-filled (a ∷ as') (suc i) h f = (f.0, remove-filled as' i (omega arith) f.1)

  pub AllFilled-append : (as' bs : List (Part E)) → AllFilled as' → AllFilled bs → AllFilled (as' ++ bs)
  AllFilled-append [] bs f h = h
  AllFilled-append (a ∷ as') bs f h = (f.0, AllFilled-append as' bs f.1 h)

-- ---- what a change of the part that may have the key does to the whole
module _ {K V : Type 0} (cmp : K → K → Ordering) (k : K) (as' : List (Part (K × V))) (i : ℕ) (h : IsPart cmp k as' i) (d : Part (K × V)) where
  abbrev part : List (K × V)
  part = (get_or as' i d).value

  pub part-lookup : lookup (is_at (cmp k)) (joined as') ≡ lookup (is_at (cmp k)) part
  part-lookup = ap (lookup (is_at (cmp k))) (joined-around as' i d h.within) ∙ lookup_below cmp k (joined (take i as')) (part ++ joined (drop (suc i) as')) h.below
      ∙ lookup_above cmp k part (joined (drop (suc i) as')) h.above

  pub part-insert : (v : V) (b : Part (K × V)) → b.value ≡ insert_entry cmp part k v → joined (set as' i b) ≡ insert_entry cmp (joined as') k v
  part-insert v b e =
      let after : insert_entry cmp (joined as') k v ≡ joined (take i as') ++ (insert_entry cmp part k v ++ joined (drop (suc i) as'))
      = ap (λ l. insert_entry cmp l k v) (joined-around as' i d h.within) ∙ insert_below cmp k (joined (take i as')) (part ++ joined (drop (suc i) as')) v h.below
      ∙ ap (λ l. joined (take i as') ++ l) (insert_above cmp k part (joined (drop (suc i) as')) v h.above) in
      set-joined as' i b h.within ∙ ap (λ p. joined (take i as') ++ (p ++ joined (drop (suc i) as'))) e ∙ sym after

  part-removed : remove_entry (is_at (cmp k)) (joined as') ≡ joined (take i as') ++ (remove_entry (is_at (cmp k)) part ++ joined (drop (suc i) as'))
  part-removed = ap (remove_entry (is_at (cmp k))) (joined-around as' i d h.within) ∙ remove_below cmp k (joined (take i as')) (part ++ joined (drop (suc i) as')) h.below
      ∙ ap (λ l. joined (take i as') ++ l) (remove_above cmp k part (joined (drop (suc i) as')) h.above)

  pub part-remove : (b : Part (K × V)) → b.value ≡ remove_entry (is_at (cmp k)) part → joined (set as' i b) ≡ remove_entry (is_at (cmp k)) (joined as')
  part-remove b e = set-joined as' i b h.within ∙ ap (λ p. joined (take i as') ++ (p ++ joined (drop (suc i) as'))) e ∙ sym part-removed

  pub part-emptied : (b : Part (K × V)) → b.value ≡ remove_entry (is_at (cmp k)) part → length b.value ≡ 0 → joined (remove (set as' i b) i) ≡ remove_entry (is_at (cmp k)) (joined as')
  part-emptied b e z =
      let none : [] ≡ remove_entry (is_at (cmp k)) part = sym (nothing b.value z) ∙ e in
      ap joined (remove-set as' i b h.within) ∙ joined-append (take i as') (drop (suc i) as') ∙ ap (λ p. joined (take i as') ++ (p ++ joined (drop (suc i) as'))) none ∙ sym part-removed

  pub part-set : (w : V) (b : Part (K × V)) → b.value ≡ set_value (is_at (cmp k)) part w → joined (set as' i b) ≡ set_value (is_at (cmp k)) (joined as') w
  part-set w b e =
      let after : set_value (is_at (cmp k)) (joined as') w ≡ joined (take i as') ++ (set_value (is_at (cmp k)) part w ++ joined (drop (suc i) as'))
      = ap (λ l. set_value (is_at (cmp k)) l w) (joined-around as' i d h.within) ∙ set_below cmp k (joined (take i as')) (part ++ joined (drop (suc i) as')) w h.below
      ∙ ap (λ l. joined (take i as') ++ l) (set_above cmp k part (joined (drop (suc i) as')) w h.above) in
      set-joined as' i b h.within ∙ ap (λ p. joined (take i as') ++ (p ++ joined (drop (suc i) as'))) e ∙ sym after

  pub part-sorted : (s : IsStrictlySortedBy cmp (keys_of (joined as'))) → IsTotalOrder cmp → IsStrictlySortedBy cmp (keys_of part)
  part-sorted s o =
      let whole : IsStrictlySortedBy cmp (keys_of (joined (take i as') ++ (part ++ joined (drop (suc i) as')))) = subst (λ l. IsStrictlySortedBy cmp (keys_of l)) (joined-around as' i d h.within) s in
      sorted_left o part (joined (drop (suc i) as')) (sorted_right o (joined (take i as')) (part ++ joined (drop (suc i) as')) whole)

-- ---- what the first entry of a part says of the others
module _ {K V : Type 0} {cmp : K → K → Ordering} (o : IsTotalOrder cmp) (k : K) (as' : List (Part (K × V))) (i : ℕ) (d : Part (K × V)) (h : i < length as') (f : AllFilled as')
    (s : IsStrictlySortedBy cmp (keys_of (joined as'))) (e : K × V) (is : e ≡ get_or (get_or as' i d).value 0 e) where
  abbrev rest : List (K × V)
  rest = drop 1 (get_or as' i d).value ++ joined (drop (suc i) as')

  opened : (get_or as' i d).value ≡ e ∷ drop 1 (get_or as' i d).value
  opened = drop-cons (get_or as' i d).value 0 e (AllFilled-get_or as' i d h f) ∙ ap (λ x. x ∷ drop 1 (get_or as' i d).value) (sym is)

  whole : joined as' ≡ joined (take i as') ++ e ∷ rest
  whole = joined-around as' i d h ∙ ap (λ p. joined (take i as') ++ (p ++ joined (drop (suc i) as'))) opened

  sorted_whole : IsStrictlySortedBy cmp (keys_of (joined (take i as') ++ e ∷ rest))
  sorted_whole = subst (λ l. IsStrictlySortedBy cmp (keys_of l)) whole s

  pub below_part : (cmp k e.0 ≡ Less → ⊥) → AllBelow cmp k (joined (take i as'))
  below_part n = below_before o k (joined (take i as')) e rest sorted_whole n

  pub above_part : cmp k e.0 ≡ Less → AllAbove cmp k (joined (drop i as'))
  above_part l = subst (AllAbove cmp k) (sym (ap joined (drop-cons as' i d h) ∙ ap (λ p. p ++ joined (drop (suc i) as')) opened)) (l, above_after o k (joined (take i as')) e rest sorted_whole (λ g. cc))

pub lt-is : (r : Ordering) → is_lt r ≡ true → r ≡ Less
lt-is Less e = refl
lt-is Equal e = cc
lt-is Greater e = cc

pub lt-is_not : (r : Ordering) → is_lt r ≡ false → r ≡ Less → ⊥
lt-is_not Less e f = cc
lt-is_not Equal e f = cc
lt-is_not Greater e f = cc

differ : {X : Type 0} (x : X) → None ≡ Some x → ⊥
differ x e = cc

turn_equal : Equal ≡ Less → ⊥
turn_equal e = cc

turn : Less ≡ Greater → ⊥
turn e = cc

pub one_of : {A : Type 0} → A ⊎ A → A
one_of (inl a) = a
one_of (inr a) = a

pub if_ok_map : {T E : Type 0} (r : Result T E) {P Q : T → Type 0} → ((x : T) → P x → Q x) → IfOk r P → IfOk r Q
if_ok_map (Ok x) f h = f x h
if_ok_map (Err e) f h = tt

pub on_err_map : {T E : Type 0} (r : Result T E) {P Q : Type 0} → (P → Q) → OnErr r P → OnErr r Q
on_err_map (Ok x) f h = tt
on_err_map (Err e) f h = f h

pub on_err : {T E : Type 0} (r : Result T E) {P : Type 0} → P → OnErr r P
on_err (Ok x) h = tt
on_err (Err e) h = h

pub insert_filled : {K V : Type 0} (cmp : K → K → Ordering) (es : List (K × V)) (k : K) (v : V) → 0 < length (insert_entry cmp es k v)
insert_filled cmp [] k v = omega arith
insert_filled cmp (e ∷ es) k v = elim (cmp k e.0) as (λ r. 0 < length (match_ordering r ((k, v) ∷ e ∷ es) ((e.0, v) ∷ es) (e ∷ insert_entry cmp es k v))) [
  | Less ↦ omega arith
  | Equal ↦ omega arith
  | Greater ↦ omega arith
]

-- what is in a part after an insert, refused or not, is something
pub filled_either : {T E X : Type 0} (r : Result T E) (n ins old : List X) → OnOk r (n ≡ ins) → OnErr r (n ≡ old) → 0 < length ins → 0 < length old → 0 < length n
filled_either (Ok x) n ins old p q h l = subst (λ es. 0 < length es) (sym p) h
filled_either (Err e) n ins old p q h l = subst (λ es. 0 < length es) (sym q) l

-- ---- cutting a list
pub ends : {X : Type 0} (xs : List X) (n : ℕ) → take (length xs - n) (drop n xs) ≡ drop n xs
ends xs n = ap (λ m. take m (drop n xs)) (sym (length-drop n xs)) ∙ take_all (length (drop n xs)) (drop n xs) (omega arith)

pub long_take : {X : Type 0} (xs : List X) (n : ℕ) → 0 < n → n < length xs → 0 < length (take n xs)
long_take xs n p h = omega (arith, length-take-le n xs (omega arith))

pub long_drop : {X : Type 0} (xs : List X) (n : ℕ) → n < length xs → 0 < length (drop n xs)
long_drop xs n h = omega (arith, length-drop n xs)

-- one part more of those that are copied
pub joined-one : {E : Type 0} (as' : List (Part E)) (i : ℕ) (d b : Part E) → i < length as' → b.value ≡ (get_or as' i d).value → joined (take i as') ++ joined (b ∷ []) ≡ joined (take (i + 1) as')
joined-one as' i d b h e =
    ap (λ p. joined (take i as') ++ (p ++ [])) e
    ∙ sym (joined-append (take i as') (get_or as' i d ∷ []))
    ∙ ap joined (sym (take-suc as' i d h))
    ∙ ap (λ n. joined (take n as')) (sym (add-one i))

-- ---- how many entries
module _ {K V : Type 0} (cmp : K → K → Ordering) (k : K) where
  -- a new key makes one more
  pub length-insert_new : (es : List (K × V)) (v : V) → lookup (is_at (cmp k)) es ≡ None → length (insert_entry cmp es k v) ≡ length es + 1
  length-insert_new [] v n = omega arith
  length-insert_new (e ∷ es) v n =
      elim (cmp k e.0) as (λ r. cond (is_eq r) (Some e.1) (lookup (is_at (cmp k)) es) ≡ None → length (match_ordering r ((k, v) ∷ e ∷ es) ((e.0, v) ∷ es) (e ∷ insert_entry cmp es k v)) ≡ suc (length es) + 1) [
        | Less ↦ λ h. omega arith
        | Equal ↦ λ h. cc
        | Greater ↦ λ h. omega (arith, length-insert_new es v h)
      ] n

  -- and a key that is there brings no entry more
  pub length-insert_old : IsTotalOrder cmp → (es : List (K × V)) (v w : V) → IsStrictlySortedBy cmp (keys_of es) → lookup (is_at (cmp k)) es ≡ Some w → length (insert_entry cmp es k v) ≡ length es
  length-insert_old o [] v w s n = cc
  length-insert_old o (e ∷ es) v w s n =
      elim (cmp k e.0) as (λ r. cmp k e.0 ≡ r → cond (is_eq r) (Some e.1) (lookup (is_at (cmp k)) es) ≡ Some w → length (match_ordering r ((k, v) ∷ e ∷ es) ((e.0, v) ∷ es) (e ∷ insert_entry cmp es k v)) ≡ suc (length es)) [
        | Less ↦ λ is h. absurd (differ w (sym (lookup_none cmp k es (above_after o k [] e es s (λ g. turn (sym is ∙ g)))) ∙ h))
        | Equal ↦ λ is h. omega arith
        | Greater ↦ λ is h. omega (arith, length-insert_old o es v w (sorted_tail cmp e.0 (keys_of es) s) h)
      ] refl n

  pub length-remove_old : (es : List (K × V)) (w : V) → lookup (is_at (cmp k)) es ≡ Some w → length (remove_entry (is_at (cmp k)) es) + 1 ≡ length es
  length-remove_old [] w n = cc
  length-remove_old (e ∷ es) w n =
      elim (is_eq (cmp k e.0)) as (λ b. cond b (Some e.1) (lookup (is_at (cmp k)) es) ≡ Some w → length (cond b es (e ∷ remove_entry (is_at (cmp k)) es)) + 1 ≡ suc (length es)) [
        | true ↦ λ h. omega arith
        | false ↦ λ h. omega (arith, length-remove_old es w h)
      ] n

  pub remove_missing : (es : List (K × V)) → lookup (is_at (cmp k)) es ≡ None → remove_entry (is_at (cmp k)) es ≡ es
  remove_missing [] n = refl
  remove_missing (e ∷ es) n =
      elim (is_eq (cmp k e.0)) as (λ b. cond b (Some e.1) (lookup (is_at (cmp k)) es) ≡ None → cond b es (e ∷ remove_entry (is_at (cmp k)) es) ≡ e ∷ es) [
        | true ↦ λ h. cc
        | false ↦ λ h. ap (λ l. e ∷ l) (remove_missing es h)
      ] n

pub none_of : {X : Type 0} (o : Option X) → is_some o ≡ false → o ≡ None
none_of None e = refl
none_of (Some x) e = cc

pub some_of : {X : Type 0} (o : Option X) → is_some o ≡ true → (x : X) × (o ≡ Some x)
some_of None e = cc
some_of (Some x) e = (x, refl)

pub is_some_copied : {X : Type 0} (o : Option (Bor X)) → is_some (option_copied o) ≡ is_some o
is_some_copied None = refl
is_some_copied (Some x) = refl

-- ---- some of the parts
pub AllFilled-take : {E : Type 0} (n : ℕ) (as' : List (Part E)) → AllFilled as' → AllFilled (take n as')
AllFilled-take zero as' f = tt
AllFilled-take (suc n) [] f = tt
AllFilled-take (suc n) (a ∷ as') f = (f.0, AllFilled-take n as' f.1)

pub AllFilled-drop : {E : Type 0} (n : ℕ) (as' : List (Part E)) → AllFilled as' → AllFilled (drop n as')
AllFilled-drop zero as' f = f
AllFilled-drop (suc n) [] f = tt
AllFilled-drop (suc n) (a ∷ as') f = AllFilled-drop n as' f.1

pub joined_some : {E : Type 0} (as' : List (Part E)) → AllFilled as' → 0 < length as' → 0 < length (joined as')
joined_some [] f h = absurd (omega arith)
joined_some (a ∷ as') f h = omega (arith, f.0, length-append a.value (joined as'))

pub parts_some : {E : Type 0} (as' : List (Part E)) → 0 < length (joined as') → 0 < length as'
parts_some [] h = absurd (omega arith)
parts_some (a ∷ as') h = omega arith

-- the last entry of the last part is the last of all
pub joined_last : {E : Type 0} (as' : List (Part E)) (p : Part E) (d : E) → AllFilled as' → 0 < length as'
    → get_or (joined as') (length (joined as') - 1) d ≡ get_or (get_or as' (length as' - 1) p).value (length (get_or as' (length as' - 1) p).value - 1) d
joined_last [] p d f h = absurd (omega arith)
joined_last (a ∷ []) p d f h = ap (λ l. get_or l (length l - 1) d) (append-nil a.value)
joined_last (a ∷ b ∷ bs) p d f h =
    let js = joined (b ∷ bs) in
    let some : 0 < length js = joined_some (b ∷ bs) f.1 (omega arith) in
    let end : length (a.value ++ js) - 1 ≡ length a.value + (length js - 1) = omega (arith, some, length-append a.value js) in
    let next : length (a ∷ b ∷ bs) - 1 ≡ suc (length (b ∷ bs) - 1) = omega arith in
    ap (λ n. get_or (a.value ++ js) n d) end
    ∙ get_or-append-add a.value js (length js - 1) d
    ∙ joined_last (b ∷ bs) p d f.1 (omega arith)
    ∙ ap (λ n. get_or (get_or (a ∷ b ∷ bs) n p).value (length (get_or (a ∷ b ∷ bs) n p).value - 1) d) (sym next)

pub joined_none : {E : Type 0} (as' : List (Part E)) → AllFilled as' → joined as' ≡ [] → length as' ≡ 0
joined_none [] f e = refl
joined_none (a ∷ as') f e = absurd (omega (arith, f.0, length-append a.value (joined as'), ap length e))

pub joined_nothing : {E : Type 0} (as' : List (Part E)) → length as' ≡ 0 → joined as' ≡ []
joined_nothing [] e = refl
joined_nothing (a ∷ as') e = absurd (omega arith)

pub something : {X : Type 0} (xs : List X) → (xs ≡ [] → ⊥) → 0 < length xs
something [] n = absurd (n refl)
something (x ∷ xs) n = omega arith

pub clash : (b : Bool) → b ≡ true → b ≡ false → ⊥
clash true t f = cc
clash false t f = cc

pub length-set_value : {K V : Type 0} (test : K → Bool) (es : List (K × V)) (w : V) → length (set_value test es w) ≡ length es
length-set_value test [] w = refl
length-set_value test (e ∷ es) w = elim (test e.0) as (λ b. length (cond b ((e.0, w) ∷ es) (e ∷ set_value test es w)) ≡ suc (length es)) [
  | true ↦ refl
  | false ↦ ap suc (length-set_value test es w)
]

pub keys-set_value : {K V : Type 0} (test : K → Bool) (es : List (K × V)) (w : V) → keys_of (set_value test es w) ≡ keys_of es
keys-set_value test [] w = refl
keys-set_value test (e ∷ es) w = elim (test e.0) as (λ b. keys_of (cond b ((e.0, w) ∷ es) (e ∷ set_value test es w)) ≡ e.0 ∷ keys_of es) [
  | true ↦ refl
  | false ↦ ap (λ l. e.0 ∷ l) (keys-set_value test es w)
]

-- ---- a borrow that was granted: the lender ends as is said
pub lent_alike : {N R V : Type 0} {n : N} {F G : V → R} → ((w : V) → F w ≡ G w) → ◌≡◌ {A = (N × (V → R)) ⊎ R} (inl (n, F)) (inl (n, G))
lent_alike {n = n} same = λ i. inl (n, λ w. same w i)

-- ---- and one that was refused
pub lent_at_err : {R V E : Type 0} (r : Result (MutBor V) E) (F : V → R) (v : R) → IsErr r → inr v ≡ read_of (name_if_ok (λ x. x.ghost_name) r) F v
lent_at_err (Ok x) F v h = cc
lent_at_err (Err e) F v h = refl

pub ok_at_err : {T E : Type 0} (r : Result T E) (P : T → Type 0) → IsErr r → IfOk r P
ok_at_err (Ok x) P h = cc
ok_at_err (Err e) P h = tt

-- the entries come in order
pub insert_next : {K V : Type 0} {cmp : K → K → Ordering} (o : IsTotalOrder cmp) (es : List (K × V)) (i : ℕ) (d : K × V) → i < length es → IsStrictlySortedBy cmp (keys_of es)
    → insert_entry cmp (take i es) (get_or es i d).0 (get_or es i d).1 ≡ take (i + 1) es
insert_next {cmp = cmp} o es i d h s =
    ap (λ l. insert_entry cmp l (get_or es i d).0 (get_or es i d).1) (sym (append-nil (take i es)))
    ∙ insert_below cmp (get_or es i d).0 (take i es) [] (get_or es i d).1 (below_at o (get_or es i d).0 es i d h s (λ l. turn_equal (sym (tied_itself o (get_or es i d).0) ∙ l)))
    ∙ sym (take-suc es i d h)
    ∙ ap (λ n. take n es) (sym (add-one i))

-- entries that move from those that are left to those that are open
pub moved : {X : Type 0} (a o l m es i j all b : List X) → a ++ o ≡ l ++ m → b ≡ o ++ es → i ≡ es ++ j → l ++ (m ++ i) ≡ all → a ++ (b ++ j) ≡ all
moved a o l m es i j all b s p q h =
    ap (λ x. a ++ (x ++ j)) p
    ∙ ap (λ x. a ++ x) (append_assoc o es j)
    ∙ sym (append_assoc a o (es ++ j))
    ∙ ap (λ x. x ++ (es ++ j)) s
    ∙ append_assoc l m (es ++ j)
    ∙ ap (λ x. l ++ (m ++ x)) (sym q)
    ∙ h

-- what a map keeps, at a list that is another
pub kept_along : {K V : Type 0} (cmp : K → K → Ordering) (n : ℕ) (xs ys : List (K × V)) → xs ≡ ys → (n ≡ length ys) × IsStrictlySortedBy cmp (keys_of ys) → (n ≡ length xs) × IsStrictlySortedBy cmp (keys_of xs)
kept_along cmp n xs ys e h = (h.0 ∙ sym (ap length e), subst (λ l. IsStrictlySortedBy cmp (keys_of l)) (sym e) h.1)

-- setting a value keeps it
pub kept-set_value : {K V : Type 0} (cmp : K → K → Ordering) (n : ℕ) (test : K → Bool) (es : List (K × V)) (w : V) → (n ≡ length es) × IsStrictlySortedBy cmp (keys_of es)
    → (n ≡ length (set_value test es w)) × IsStrictlySortedBy cmp (keys_of (set_value test es w))
kept-set_value cmp n test es w h = (h.0 ∙ sym (length-set_value test es w), subst (IsStrictlySortedBy cmp) (sym (keys-set_value test es w)) h.1)

-- ---- slots
-- where memory lacks, nothing is said of what is absent
pub lacks_slot : {T : Type 0} (r : Result T NoSlot) (P : Type 0) → IsErrAnd r (λ e. e ≡ NoMemory)
    → IfErr r (λ e. e ≡ Absent → P)
lacks_slot (Ok x) P h = tt
lacks_slot (Err e) P h = λ absent. let bad : NoMemory ≡ Absent = sym h ∙ absent in cc

-- what is absent in a part is so in the whole
pub no_slot : {T : Type 0} (r : Result T NoSlot) (why : NoSlot) (P : Type 0) → IsErrAnd r (λ e. e ≡ why)
    → (why ≡ Absent → P) → IfErr r (λ e. e ≡ Absent → P)
no_slot (Ok x) why P h is = tt
no_slot (Err e) why P h is = λ absent. is (sym h ∙ absent)
