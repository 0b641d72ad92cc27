-- Listens as the entries of a map by owner: what each of its calls is to the list of listens.
use Rattle.std.proofs.Common.{◌≡◌, ℕ, suc, ◌<◌, ◌≤◌, ◌==◌, nat_lt, Bool, true, false, cond, not, ◌||◌, ◌&&◌, List, [], ◌∷◌, ◌++◌, length, get_or, Option, Bor, Some, None, is_some, IfSome, IfNone, refl, sym, ap, subst, ◌∙◌, arith}
use mathlib.Core.Bool.{true≢false}
use Rattle.std.specs.List.{All, AllPairs, filter, list_any}
use Rattle.std.specs.List.Sorted.{IsStrictlySortedBy}
use Rattle.std.specs.Map.{keys_of, lookup, remove_entry}
use Rattle.std.specs.BTreeMap.{insert_entry, is_at as key_is}
use Rattle.std.specs.Option.{option_copied, option_map_or}
use Rattle.std.specs.Ordering.{nat_cmp, is_eq, is_le, is_lt, ordering_then, match_ordering}
use Rattle.std.specs.Cmp.{nat_cmp_total, tied_itself}
use Rattle.std.specs.declared.cmp.Ordering.{Ordering}
use Rattle.std.specs.declared.cmp.Ordering.TheVariants.{Less, Equal, Greater}
use Rattle.std.proofs.lemmas.Bool.Decides.{nat_tests}
use Rattle.std.proofs.lemmas.List.Elements.{All-cons, All-head, All-tail, filter_passes}
use Rattle.std.proofs.lemmas.List.Kept.{AllPairs-cons, IsStrictlySortedBy-filter}
use Rattle.std.proofs.lemmas.Map.Keys.{sorted_tail}
use Rattle.std.proofs.lemmas.Map.Views.{All-after_first}
use Rattle.rt_query.specs.Queries.{Query}
use Rattle.rt_peer.specs.Peers.{Listen, in_place, is_at, is_before}
use Rattle.rt_peer.specs.declared.listens.Owner.{Owner}
use Rattle.rt_peer.specs.inside.Spots.{AreByOwner, owner_cmp, owners_total, listen_of, listens_of}
use Rattle.rt_peer.proofs.PlaceLaws.{Rise}
use Rattle.rt_peer.proofs.SpotLaws.{owner_exact, le_then, zero_first}
use Rattle.rt_peer.proofs.FoundLaws.{within}

abbrev pub Entries : Type 0
Entries = List (Owner × Query)

abbrev Sorted : Entries → Type 0
Sorted es = AreByOwner es

-- ---- orders

less_before : (o p : Owner) (q r : Query) → owner_cmp o p ≡ Less → is_before (listen_of (o, q)) (listen_of (p, r)) ≡ true
less_before o p q r e = by_parts (nat_lt o.connection p.connection) (o.connection == p.connection) (nat_lt o.tag p.tag) (o.tag == p.tag) e
  where
    by_parts : (a b c d : Bool) → ordering_then (cond a Less (cond b Equal Greater)) (cond c Less (cond d Equal Greater)) ≡ Less
        → (a || b && c) ≡ true
    by_parts true b c d e = refl
    by_parts false true true d e = refl
    by_parts false true false true e = absurd (true≢false (sym (ap is_lt e)))
    by_parts false true false false e = absurd (true≢false (sym (ap is_lt e)))
    by_parts false false c d e = absurd (true≢false (sym (ap is_lt e)))

-- the other way round it is not before
greater_before : (o p : Owner) (q r : Query) → owner_cmp o p ≡ Greater → is_before (listen_of (o, q)) (listen_of (p, r)) ≡ false
greater_before o p q r e = by_parts (nat_lt o.connection p.connection) (o.connection == p.connection) (nat_lt o.tag p.tag) (o.tag == p.tag) e
  where
    by_parts : (a b c d : Bool) → ordering_then (cond a Less (cond b Equal Greater)) (cond c Less (cond d Equal Greater)) ≡ Greater
        → (a || b && c) ≡ false
    by_parts true b c d e = absurd (true≢false (ap is_lt e))
    by_parts false true true d e = absurd (true≢false (ap is_lt e))
    by_parts false true false d e = refl
    by_parts false false c d e = refl

swapped : (a c : ℕ) → is_eq (nat_cmp a c) ≡ (c == a)
swapped a c =
    elim (nat_lt a c) as (λ b. nat_lt a c ≡ b → is_eq (cond b Less (cond (a == c) Equal Greater)) ≡ (c == a)) [
      | true ↦ λ e. sym (other a c e)
      | false ↦ λ e. elim (a == c) as (λ d. (a == c) ≡ d → is_eq (cond d Equal Greater) ≡ (c == a)) [
        | true ↦ λ f. sym (back a c true f)
        | false ↦ λ f. sym (back a c false f)
      ] refl
    ] refl
  where
    other : (a c : ℕ) → nat_lt a c ≡ true → (c == a) ≡ false
    other a c e = grind (arith, nat_tests)

    back : (a c : ℕ) (b : Bool) → (a == c) ≡ b → (c == a) ≡ b
    back a c true e = grind (arith, nat_tests)
    back a c false e = grind (arith, nat_tests)

then_is : (x y : Ordering) → is_eq (ordering_then x y) ≡ (is_eq x && is_eq y)
then_is Less y = refl
then_is Equal y = refl
then_is Greater y = refl

-- an entry is found where its listen is that owner's
own_key : (o : Owner) (e : Owner × Query) → key_is (owner_cmp o) e.0 ≡ is_at o.connection o.tag (listen_of e)
own_key o e =
    then_is (nat_cmp o.connection e.0.connection) (nat_cmp o.tag e.0.tag)
    ∙ (λ i. swapped o.connection e.0.connection i && swapped o.tag e.0.tag i)

-- ---- the list rises

pub rises : (es : Entries) → Sorted es → AllPairs Rise (listens_of es)
rises [] s = λ i j d lt within. absurd (omega (arith, within))
rises (e ∷ es) s =
    AllPairs-cons Rise (listen_of e) (listens_of es) (later es (All-after_first owner_cmp e.0 (keys_of es) s))
    (rises es (sorted_tail owner_cmp e.0 (keys_of es) s))
  where
    later : (fs : Entries) → All (λ p. owner_cmp e.0 p ≡ Less) (keys_of fs) → All (Rise (listen_of e)) (listens_of fs)
    later [] h = λ k d lt. absurd (omega (arith, lt))
    later (f ∷ fs) h =
        All-cons (Rise (listen_of e)) (listen_of f) (listens_of fs)
        (less_before e.0 f.0 e.1 f.1 (All-head (λ p. owner_cmp e.0 p ≡ Less) f.0 (keys_of fs) h))
        (later fs (All-tail (λ p. owner_cmp e.0 p ≡ Less) f.0 (keys_of fs) h))

-- ---- one that is put

filter_all : (p : Listen → Bool) (xs : List Listen) → All (λ x. p x ≡ true) xs → filter p xs ≡ xs
filter_all p [] h = refl
filter_all p (x ∷ xs) h =
    ap (λ b. cond b (x ∷ filter p xs) (filter p xs)) (All-head (λ y. p y ≡ true) x xs h)
    ∙ ap (λ ys. x ∷ ys) (filter_all p xs (All-tail (λ y. p y ≡ true) x xs h))

filter_none : (p : Listen → Bool) (xs : List Listen) → All (λ x. p x ≡ false) xs → filter p xs ≡ []
filter_none p [] h = refl
filter_none p (x ∷ xs) h =
    ap (λ b. cond b (x ∷ filter p xs) (filter p xs)) (All-head (λ y. p y ≡ false) x xs h)
    ∙ filter_none p xs (All-tail (λ y. p y ≡ false) x xs h)

-- those behind one that stands before the first
behind : (o : Owner) (q : Query) (es : Entries) → All (λ p. owner_cmp o p ≡ Less) (keys_of es)
    → All (λ m. is_before (listen_of (o, q)) m ≡ true) (listens_of es)
behind o q [] h = λ k d lt. absurd (omega (arith, lt))
behind o q (f ∷ fs) h =
    All-cons (λ m. is_before (listen_of (o, q)) m ≡ true) (listen_of f) (listens_of fs)
    (less_before o f.0 q f.1 (All-head (λ p. owner_cmp o p ≡ Less) f.0 (keys_of fs) h))
    (behind o q fs (All-tail (λ p. owner_cmp o p ≡ Less) f.0 (keys_of fs) h))

first_in : (x : Listen) (xs : List Listen) → All (λ m. is_before x m ≡ true) xs → in_place is_before x xs ≡ x ∷ xs
first_in x xs h =
    (λ i. filter_none (λ y. not (is_before x y)) xs (λ k d lt j. not (h k d lt j)) i ++ x ∷ filter_all (is_before x) xs h i)

-- o is less than a key, so it is less than all that come behind it
all_less : (o p : Owner) (ps : List Owner) → owner_cmp o p ≡ Less → IsStrictlySortedBy owner_cmp (p ∷ ps)
    → All (λ r. owner_cmp o r ≡ Less) (p ∷ ps)
all_less o p ps e s =
    All-cons (λ r. owner_cmp o r ≡ Less) p ps e
    (λ k d lt. owners_total.trans o p (get_or ps k d) e (All-after_first owner_cmp p ps s k d lt))

pub put_in_place : (o : Owner) (q : Query) (es : Entries) → Sorted es → lookup (key_is (owner_cmp o)) es ≡ None
    → listens_of (insert_entry owner_cmp es o q) ≡ in_place is_before (listen_of (o, q)) (listens_of es)
put_in_place o q [] s none = refl
put_in_place o q (e ∷ es) s none =
    elim (owner_cmp o e.0) as (λ r. owner_cmp o e.0 ≡ r → cond (is_eq r) (Some e.1) (lookup (key_is (owner_cmp o)) es) ≡ None
    → listens_of (match_ordering r ((o, q) ∷ e ∷ es) ((e.0, q) ∷ es) (e ∷ insert_entry owner_cmp es o q))
    ≡ in_place is_before (listen_of (o, q)) (listens_of (e ∷ es))) [
      | Less ↦ λ f g. sym (first_in (listen_of (o, q)) (listens_of (e ∷ es))
          (behind o q (e ∷ es) (all_less o e.0 (keys_of es) f s)))
      | Equal ↦ λ f g. absurd (true≢false (ap is_some g))
      | Greater ↦ λ f g.
          ap (λ ls. listen_of e ∷ ls) (put_in_place o q es (sorted_tail owner_cmp e.0 (keys_of es) s) g)
          ∙ sym (ap (λ b. cond (not b) (listen_of e ∷ filter (λ y. not (is_before (listen_of (o, q)) y)) (listens_of es))
          (filter (λ y. not (is_before (listen_of (o, q)) y)) (listens_of es))
          ++ listen_of (o, q) ∷ cond b (listen_of e ∷ filter (is_before (listen_of (o, q))) (listens_of es))
          (filter (is_before (listen_of (o, q))) (listens_of es))) (greater_before o e.0 q e.1 f))
    ] refl none

-- ---- one that is found, and one that is taken out

-- behind an owner's entry no other is its own
none_behind : (o : Owner) (es : Entries) → All (λ p. owner_cmp o p ≡ Less) (keys_of es)
    → All (λ l. is_at o.connection o.tag l ≡ false) (listens_of es)
none_behind o [] h = λ k d lt. absurd (omega (arith, lt))
none_behind o (f ∷ fs) h =
    All-cons (λ l. is_at o.connection o.tag l ≡ false) (listen_of f) (listens_of fs)
    (sym (own_key o f) ∙ ap is_eq (All-head (λ p. owner_cmp o p ≡ Less) f.0 (keys_of fs) h))
    (none_behind o fs (All-tail (λ p. owner_cmp o p ≡ Less) f.0 (keys_of fs) h))

-- an equal key compares alike
after_equal : (o p : Owner) (ps : List Owner) → is_eq (owner_cmp o p) ≡ true → IsStrictlySortedBy owner_cmp (p ∷ ps)
    → All (λ r. owner_cmp o r ≡ Less) ps
after_equal o p ps e s k d lt =
    owners_total.congr o p (get_or ps k d) (equal (owner_cmp o p) e) ∙ All-after_first owner_cmp p ps s k d lt
  where
    equal : (r : Ordering) → is_eq r ≡ true → r ≡ Equal
    equal Less f = absurd (true≢false (sym f))
    equal Equal f = refl
    equal Greater f = absurd (true≢false (sym f))

pub found : (o : Owner) (es : Entries) → Sorted es
    → filter (is_at o.connection o.tag) (listens_of es)
    ≡ option_map_or (λ q. listen_of (o, q) ∷ []) (lookup (key_is (owner_cmp o)) es) []
found o [] s = refl
found o (e ∷ es) s =
    elim (key_is (owner_cmp o) e.0) as (λ b. key_is (owner_cmp o) e.0 ≡ b
    → filter (is_at o.connection o.tag) (listens_of (e ∷ es))
    ≡ option_map_or (λ q. listen_of (o, q) ∷ []) (cond b (Some e.1) (lookup (key_is (owner_cmp o)) es)) []) [
      | true ↦ λ f.
          ap (λ b. cond b (listen_of e ∷ filter (is_at o.connection o.tag) (listens_of es)) (filter (is_at o.connection o.tag) (listens_of es))) (sym (own_key o e) ∙ f)
          ∙ ap (λ ls. listen_of e ∷ ls) (filter_none (is_at o.connection o.tag) (listens_of es) (none_behind o es (after_equal o e.0 (keys_of es) f s)))
          ∙ ap (λ p. listen_of (p, e.1) ∷ []) (sym (owner_exact o e.0 f))
      | false ↦ λ f.
          ap (λ b. cond b (listen_of e ∷ filter (is_at o.connection o.tag) (listens_of es)) (filter (is_at o.connection o.tag) (listens_of es))) (sym (own_key o e) ∙ f)
          ∙ found o es (sorted_tail owner_cmp e.0 (keys_of es) s)
    ] refl

pub taken : (o : Owner) (es : Entries) → Sorted es
    → listens_of (remove_entry (key_is (owner_cmp o)) es) ≡ filter (λ l. not (is_at o.connection o.tag l)) (listens_of es)
taken o [] s = refl
taken o (e ∷ es) s =
    elim (key_is (owner_cmp o) e.0) as (λ b. key_is (owner_cmp o) e.0 ≡ b
    → listens_of (cond b es (e ∷ remove_entry (key_is (owner_cmp o)) es))
    ≡ filter (λ l. not (is_at o.connection o.tag l)) (listens_of (e ∷ es))) [
      | true ↦ λ f. sym (ap (λ b. cond (not b) (listen_of e ∷ filter (λ l. not (is_at o.connection o.tag l)) (listens_of es))
          (filter (λ l. not (is_at o.connection o.tag l)) (listens_of es))) (sym (own_key o e) ∙ f)
          ∙ filter_all (λ l. not (is_at o.connection o.tag l)) (listens_of es)
          (λ k d lt j. not (none_behind o es (after_equal o e.0 (keys_of es) f s) k d lt j)))
      | false ↦ λ f. ap (λ ls. listen_of e ∷ ls) (taken o es (sorted_tail owner_cmp e.0 (keys_of es) s))
          ∙ sym (ap (λ b. cond (not b) (listen_of e ∷ filter (λ l. not (is_at o.connection o.tag l)) (listens_of es))
          (filter (λ l. not (is_at o.connection o.tag l)) (listens_of es))) (sym (own_key o e) ∙ f))
    ] refl

-- ---- what a call finds of an owner

pub found_one : (o : Owner) (es : Entries) (now : List Listen) (r : Option (Bor Query)) → Sorted es → listens_of es ≡ now
    → option_copied r ≡ lookup (key_is (owner_cmp o)) es
    → IfSome r (λ q. filter (is_at o.connection o.tag) now ≡ listen_of (o, q.now) ∷ [])
found_one o es now None s view e = tt
found_one o es now (Some q) s view e =
    ap (filter (is_at o.connection o.tag)) (sym view) ∙ found o es s
    ∙ ap (λ r. option_map_or (λ q. listen_of (o, q) ∷ []) r []) (sym e)

pub found_none : (o : Owner) (es : Entries) (now : List Listen) (r : Option (Bor Query)) → Sorted es → listens_of es ≡ now
    → option_copied r ≡ lookup (key_is (owner_cmp o)) es
    → IfNone r (filter (is_at o.connection o.tag) now ≡ [])
found_none o es now (Some q) s view e = tt
found_none o es now None s view e =
    ap (filter (is_at o.connection o.tag)) (sym view) ∙ found o es s
    ∙ ap (λ r. option_map_or (λ q. listen_of (o, q) ∷ []) r []) (sym e)

-- whose query is found, has that listen alone
pub there_alone : (o : Owner) (q : Query) (es : Entries) → Sorted es → Some q ≡ lookup (key_is (owner_cmp o)) es
    → filter (is_at o.connection o.tag) (listens_of es) ≡ listen_of (o, q) ∷ []
there_alone o q es s e = found o es s ∙ ap (λ r. option_map_or (λ q. listen_of (o, q) ∷ []) r []) (sym e)

pub none_there : (o : Owner) (es : Entries) (now : List Listen) → Sorted es → listens_of es ≡ now
    → None ≡ lookup (key_is (owner_cmp o)) es → filter (is_at o.connection o.tag) now ≡ []
none_there o es now s view e =
    ap (filter (is_at o.connection o.tag)) (sym view) ∙ found o es s
    ∙ ap (λ r. option_map_or (λ q. listen_of (o, q) ∷ []) r []) (sym e)

-- whose listens are none, has no key
pub no_key : (o : Owner) (es : Entries) → Sorted es → filter (is_at o.connection o.tag) (listens_of es) ≡ []
    → lookup (key_is (owner_cmp o)) es ≡ None
no_key o es s e = by_what (lookup (key_is (owner_cmp o)) es) (sym (found o es s) ∙ e)
  where
    by_what : (r : Option Query) → option_map_or (λ q. listen_of (o, q) ∷ []) r [] ≡ [] → r ≡ None
    by_what None e = refl
    by_what (Some q) e = let none = ap length e in absurd (omega (arith, none))

-- a listen of an owner that has none
pub put_alone : (o : Owner) (q : Query) (es new : Entries) (now : List Listen) → Sorted es → listens_of es ≡ now
    → filter (is_at o.connection o.tag) now ≡ [] → new ≡ insert_entry owner_cmp es o q
    → listens_of new ≡ in_place is_before (listen_of (o, q)) now
put_alone o q es new now s view none put =
    ap listens_of put
    ∙ put_in_place o q es s (no_key o es s (ap (filter (is_at o.connection o.tag)) view ∙ none))
    ∙ ap (in_place is_before (listen_of (o, q))) view

-- ---- the first owner of a connection

abbrev pub from_first : ℕ → Owner × Query → Bool
from_first n e = is_le (owner_cmp (record { connection = n; tag = 0 }) e.0) && not false

and_true : (b : Bool) → b && not false ≡ b
and_true true = refl
and_true false = refl

le_parts : (a b c d : Bool) → is_le (ordering_then (cond a Less (cond b Equal Greater)) (cond c Less (cond d Equal Greater))) ≡ true
    → (a || b) ≡ true
le_parts true b c d e = refl
le_parts false true c d e = refl
le_parts false false c d e = e

-- none before the first there can be is the connection's
before_first : (n : ℕ) (o : Owner) → is_le (owner_cmp (record { connection = n; tag = 0 }) o) ≡ false
    → (o.connection == n) ≡ false
before_first n o e =
    elim (o.connection == n) as (λ b. (o.connection == n) ≡ b → b ≡ false) [
      | true ↦ λ f. absurd (true≢false (sym (le_own n o f) ∙ e))
      | false ↦ λ f. refl
    ] refl
  where
    same_of : (a c : ℕ) → (a == c) ≡ true → a ≡ c
    same_of a c e = grind (arith, nat_tests)

    le_own : (n : ℕ) (o : Owner) → (o.connection == n) ≡ true
        → is_le (owner_cmp (record { connection = n; tag = 0 }) o) ≡ true
    le_own n o f =
        ap (λ m. is_le (owner_cmp (record { connection = m; tag = 0 }) o)) (sym (same_of o.connection n f))
        ∙ le_then (nat_cmp o.connection o.connection) (nat_cmp 0 o.tag) (ap is_le (tied_itself nat_cmp_total o.connection)) (zero_first o.tag)

-- what is not before it, and of another connection, is of a later one
later_other : (n a : ℕ) → (nat_lt n a || n == a) ≡ true → (a == n) ≡ false → n < a
later_other n a h e = grind (arith, nat_tests)

-- and so is what is behind that
behind_other : (n a b : ℕ) → n < a → (nat_lt a b || a == b) ≡ true → (b == n) ≡ false
behind_other n a b lt h = grind (arith, nat_tests)

less_parts : (a b c d : Bool) → ordering_then (cond a Less (cond b Equal Greater)) (cond c Less (cond d Equal Greater)) ≡ Less
    → (a || b) ≡ true
less_parts true b c d e = refl
less_parts false true c d e = refl
less_parts false false c d e = ap is_lt e

-- a test of all that a filter lets through, and of what it doesn't
from_filter : (keep : Owner × Query → Bool) (P : Owner × Query → Type 0) (es : Entries) → ((e : Owner × Query) → keep e ≡ false → P e)
    → All P (filter keep es) → All P es
from_filter keep P [] f h = h
from_filter keep P (e ∷ es) f h =
    elim (keep e) as (λ b. keep e ≡ b → All P (cond b (e ∷ filter keep es) (filter keep es)) → All P (e ∷ es)) [
      | true ↦ λ k g. All-cons P e es (All-head P e (filter keep es) g)
          (from_filter keep P es f (All-tail P e (filter keep es) g))
      | false ↦ λ k g. All-cons P e es (f e k) (from_filter keep P es f g)
    ] refl h

keys_filter : (q : Owner → Bool) (es : Entries) → keys_of (filter (λ e. q e.0) es) ≡ filter q (keys_of es)
keys_filter q [] = refl
keys_filter q (e ∷ es) =
    elim (q e.0) as (λ b. keys_of (cond b (e ∷ filter (λ e. q e.0) es) (filter (λ e. q e.0) es)) ≡ cond b (e.0 ∷ filter q (keys_of es)) (filter q (keys_of es))) [
      | true ↦ ap (λ ks. e.0 ∷ ks) (keys_filter q es)
      | false ↦ keys_filter q es
    ]

sorted_from : (n : ℕ) (es : Entries) → Sorted es → Sorted (filter (from_first n) es)
sorted_from n es s =
    let q : Owner → Bool = λ o. is_le (owner_cmp (record { connection = n; tag = 0 }) o) && not false in
    subst (IsStrictlySortedBy owner_cmp) (sym (keys_filter q es)) (IsStrictlySortedBy-filter owner_cmp q (keys_of es) s)

head_is : (f e : Owner × Query) (xs ys : Entries) → f ∷ xs ≡ e ∷ ys → f ≡ e
head_is f e xs ys g = ap (λ zs. get_or zs 0 e) g

-- what holds of entries by their owners holds of their listens
of_listens : (n : ℕ) (es : Entries) → All (λ (e : Owner × Query). (e.0.connection == n) ≡ false) es
    → All (λ (l : Listen). (l.connection == n) ≡ false) (listens_of es)
of_listens n [] h = λ k d lt. absurd (omega (arith, lt))
of_listens n (e ∷ es) h =
    All-cons (λ (l : Listen). (l.connection == n) ≡ false) (listen_of e) (listens_of es)
    (All-head (λ (e : Owner × Query). (e.0.connection == n) ≡ false) e es h)
    (of_listens n es (All-tail (λ (e : Owner × Query). (e.0.connection == n) ≡ false) e es h))

pub none_from : (n : ℕ) (es left : Entries) → left ≡ filter (from_first n) es → left ≡ []
    → All (λ (l : Listen). (l.connection == n) ≡ false) (listens_of es)
none_from n es left is none =
    of_listens n es (from_filter (from_first n) (λ e. (e.0.connection == n) ≡ false) es
    (λ e f. before_first n e.0 (sym (and_true (is_le (owner_cmp (record { connection = n; tag = 0 }) e.0))) ∙ f))
    (subst (All (λ (e : Owner × Query). (e.0.connection == n) ≡ false)) (sym none ∙ is) (λ k d lt. absurd (omega (arith, lt)))))

pub none_behind_other : (n : ℕ) (es left rest : Entries) (e : Owner × Query) → Sorted es → left ≡ filter (from_first n) es
    → left ≡ e ∷ rest → (e.0.connection == n) ≡ false → All (λ (l : Listen). (l.connection == n) ≡ false) (listens_of es)
none_behind_other n es left rest e s is begins other =
    let all : filter (from_first n) es ≡ e ∷ rest = sym is ∙ begins in
    let passes : from_first n e ≡ true = All-head (λ x. from_first n x ≡ true) e rest
    (subst (All (λ x. from_first n x ≡ true)) all (λ k d lt. filter_passes (from_first n) es k d lt)) in
    let from : n < e.0.connection = later_other n e.0.connection
    (le_parts (nat_lt n e.0.connection) (n == e.0.connection) (nat_lt 0 e.0.tag) (0 == e.0.tag)
    (sym (and_true (is_le (owner_cmp (record { connection = n; tag = 0 }) e.0))) ∙ passes)) other in
    let rising : Sorted (e ∷ rest) = subst Sorted all (sorted_from n es s) in
    of_listens n es (from_filter (from_first n) (λ x. (x.0.connection == n) ≡ false) es
    (λ x f. before_first n x.0 (sym (and_true (is_le (owner_cmp (record { connection = n; tag = 0 }) x.0))) ∙ f))
    (subst (All (λ (x : Owner × Query). (x.0.connection == n) ≡ false)) (sym all)
    (All-cons (λ (x : Owner × Query). (x.0.connection == n) ≡ false) e rest other
    (others e rest from (All-after_first owner_cmp e.0 (keys_of rest) rising)))))
  where
    others : (e : Owner × Query) (rest : Entries) → n < e.0.connection → All (λ p. owner_cmp e.0 p ≡ Less) (keys_of rest)
        → All (λ (x : Owner × Query). (x.0.connection == n) ≡ false) rest
    others e [] from h = λ k d lt. absurd (omega (arith, lt))
    others e (f ∷ fs) from h =
        All-cons (λ (x : Owner × Query). (x.0.connection == n) ≡ false) f fs
        (behind_other n e.0.connection f.0.connection from (less_parts (nat_lt e.0.connection f.0.connection) (e.0.connection == f.0.connection)
        (nat_lt e.0.tag f.0.tag) (e.0.tag == f.0.tag) (All-head (λ p. owner_cmp e.0 p ≡ Less) f.0 (keys_of fs) h)))
        (others e fs from (All-tail (λ p. owner_cmp e.0 p ≡ Less) f.0 (keys_of fs) h))

pub first_there : (n : ℕ) (es left rest : Entries) (e : Owner × Query) → left ≡ filter (from_first n) es → left ≡ e ∷ rest
    → list_any (is_at e.0.connection e.0.tag) (listens_of es) ≡ true
first_there n es left rest e is begins = among es (sym is ∙ begins)
  where
    or_true : (b c : Bool) → c ≡ true → (b || c) ≡ true
    or_true true c e = refl
    or_true false c e = e

    itself : (a : ℕ) → (a == a) ≡ true
    itself a = grind (arith, nat_tests)

    among : (es : Entries) → filter (from_first n) es ≡ e ∷ rest → list_any (is_at e.0.connection e.0.tag) (listens_of es) ≡ true
    among [] h = let none = ap length h in absurd (omega (arith, none))
    among (f ∷ fs) h =
        elim (from_first n f) as (λ b. cond b (f ∷ filter (from_first n) fs) (filter (from_first n) fs) ≡ e ∷ rest
        → list_any (is_at e.0.connection e.0.tag) (listens_of (f ∷ fs)) ≡ true) [
          | true ↦ λ g.
              let same : f ≡ e = head_is f e (filter (from_first n) fs) rest g in
              ap (λ (x : Owner × Query). (x.0.connection == e.0.connection && x.0.tag == e.0.tag) || list_any (is_at e.0.connection e.0.tag) (listens_of fs)) same
              ∙ (λ i. (itself e.0.connection i && itself e.0.tag i) || list_any (is_at e.0.connection e.0.tag) (listens_of fs))
          | false ↦ λ g. or_true (is_at e.0.connection e.0.tag (listen_of f)) (list_any (is_at e.0.connection e.0.tag) (listens_of fs)) (among fs g)
        ] h

-- ---- what a search finds

abbrev pub IsFrom : Owner → Entries → Entries → Type 0
IsFrom from es left = left ≡ filter (λ (e : Owner × Query). is_le (owner_cmp from e.0) && not false) es

from_is : (n : ℕ) (es left : Entries) (from : Owner) → from ≡ record { connection = n; tag = 0 } → IsFrom from es left
    → left ≡ filter (from_first n) es
from_is n es left from at is = is ∙ ap (λ (o : Owner). filter (λ (e : Owner × Query). is_le (owner_cmp o e.0) && not false) es) at

pub first_among : (n : ℕ) (es : Entries) (now : List Listen) (left rest : Entries) (e : Owner × Query) (from : Owner)
    → listens_of es ≡ now → from ≡ record { connection = n; tag = 0 } → IsFrom from es left → left ≡ e ∷ rest
    → e.0.connection ≡ n → (e.0.connection ≡ n) × (list_any (is_at e.0.connection e.0.tag) now ≡ true)
first_among n es now left rest e from view at is begins own =
    (own, ap (list_any (is_at e.0.connection e.0.tag)) (sym view) ∙ first_there n es left rest e (from_is n es left from at is) begins)

pub none_other : (n : ℕ) (es : Entries) (now : List Listen) (left rest : Entries) (e : Owner × Query) (from : Owner)
    → Sorted es → listens_of es ≡ now → from ≡ record { connection = n; tag = 0 } → IsFrom from es left → left ≡ e ∷ rest
    → (e.0.connection == n) ≡ false → All (λ (l : Listen). (l.connection == n) ≡ false) now
none_other n es now left rest e from s view at is begins other =
    subst (All (λ (l : Listen). (l.connection == n) ≡ false)) view
    (none_behind_other n es left rest e s (from_is n es left from at is) begins other)

pub none_at_all : (n : ℕ) (es : Entries) (now : List Listen) (left : Entries) (from : Owner) → listens_of es ≡ now
    → from ≡ record { connection = n; tag = 0 } → IsFrom from es left → left ≡ []
    → All (λ (l : Listen). (l.connection == n) ≡ false) now
none_at_all n es now left from view at is none =
    subst (All (λ (l : Listen). (l.connection == n) ≡ false)) view (none_from n es left (from_is n es left from at is) none)

-- ---- one owner's listen less, until the connection has none

pub others_stay : (n : ℕ) (o : Owner) (ls : List Listen) → o.connection ≡ n
    → filter (λ l. not (l.connection == n)) (filter (λ l. not (is_at o.connection o.tag l)) ls)
    ≡ filter (λ l. not (l.connection == n)) ls
others_stay n o ls own =
    within (λ (l : Listen). not (l.connection == n)) (λ (l : Listen). not (is_at o.connection o.tag l)) ls
    (λ k d lt e. other (get_or ls k d) (ap (λ m. not ((get_or ls k d).connection == m)) own ∙ e))
  where
    by_first : (a b : Bool) → not a ≡ true → not (a && b) ≡ true
    by_first true b e = absurd (true≢false (sym e))
    by_first false b e = refl

    other : (l : Listen) → not (l.connection == o.connection) ≡ true → not (is_at o.connection o.tag l) ≡ true
    other l e = by_first (l.connection == o.connection) (l.tag == o.tag) e

pub fewer : (n t : ℕ) (ls : List Listen) → list_any (is_at n t) ls ≡ true
    → length (filter (λ l. not (is_at n t l)) ls) < length ls
fewer n t [] e = absurd (true≢false (sym e))
fewer n t (l ∷ ls) e =
    elim (is_at n t l) as (λ b. (b || list_any (is_at n t) ls) ≡ true
    → length (cond (not b) (l ∷ filter (λ m. not (is_at n t m)) ls) (filter (λ m. not (is_at n t m)) ls)) < suc (length ls)) [
      | true ↦ λ f. let le = at_most ls in omega (arith, le)
      | false ↦ λ f. let lt = fewer n t ls f in omega (arith, lt)
    ] e
  where
    at_most : (ls : List Listen) → length (filter (λ m. not (is_at n t m)) ls) ≤ length ls
    at_most [] = omega arith
    at_most (l ∷ ls) =
        elim (is_at n t l) as (λ b. length (cond (not b) (l ∷ filter (λ m. not (is_at n t m)) ls) (filter (λ m. not (is_at n t m)) ls)) ≤ suc (length ls)) [
          | true ↦ let le = at_most ls in omega (arith, le)
          | false ↦ let le = at_most ls in omega (arith, le)
        ]

pub none_left_of : (n : ℕ) (ls : List Listen) → All (λ (l : Listen). (l.connection == n) ≡ false) ls
    → filter (λ l. not (l.connection == n)) ls ≡ ls
none_left_of n ls h = filter_all (λ l. not (l.connection == n)) ls (λ k d lt. ap not (h k d lt))
