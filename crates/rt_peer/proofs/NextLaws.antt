-- A connection's next listen behind a tag, among the entries by owner.
use Rattle.std.proofs.Common.{◌≡◌, ℕ, ◌<◌, ◌==◌, nat_lt, Bool, true, false, cond, not, ◌&&◌, ◌||◌, List, [], ◌∷◌, length, get_or, Option, Some, None, refl, sym, ap, subst, ◌∙◌, arith}
use mathlib.Core.Bool.{true≢false}
use Rattle.std.specs.BTreeMap.Range.{is_from_start}
use Rattle.std.specs.List.{All, filter}
use Rattle.std.specs.Map.{keys_of}
use Rattle.std.specs.Range.Bound.{IsForward}
use Rattle.std.specs.Ordering.{nat_cmp, is_le, is_lt, ordering_then}
use Rattle.std.specs.Cmp.{nat_cmp_total, tied_itself}
use Rattle.std.specs.declared.cmp.Ordering.TheVariants.{Less, Equal, Greater}
use Rattle.std.specs.declared.ops.Bound.{Bound}
use Rattle.std.specs.declared.ops.Bound.TheVariants.{Included, Excluded, Unbounded}
use Rattle.std.proofs.lemmas.Bool.Decides.{nat_tests}
use Rattle.std.proofs.lemmas.List.Elements.{All-head, All-tail, filter_passes}
use Rattle.std.proofs.lemmas.Map.Keys.{sorted_tail}
use Rattle.std.proofs.lemmas.Map.Views.{All-after_first}
use Rattle.rt_query.specs.Queries.{Query}
use Rattle.rt_peer.specs.Peers.{Listen, is_behind, listens_behind}
use Rattle.rt_peer.specs.declared.listens.Owner.{Owner}
use Rattle.rt_peer.specs.inside.Spots.{AreByOwner, listen_of, listens_of, owner_cmp, start_of}
use Rattle.rt_peer.proofs.OwnedLaws.{Entries}
use Rattle.rt_peer.proofs.SpotLaws.{zero_first}

-- ---- whose entries are looked at

-- whether an owner stands from there on
abbrev pub stands_from : ℕ → Option ℕ → Owner → Bool
stands_from n above o = is_from_start owner_cmp (start_of n above) o && not false

-- whether a listen is the connection's, and behind that tag
abbrev own : ℕ → Option ℕ → Listen → Bool
own n above l = l.connection == n && is_behind above l.tag

-- a range without an end never runs backwards
pub forward : (P Q : Owner → Owner → Type 0) (from : Bound Owner) → IsForward P Q from Unbounded
forward P Q (Included o) = tt
forward P Q (Excluded o) = tt
forward P Q Unbounded = tt

same_of : (a c : ℕ) → (a == c) ≡ true → a ≡ c
same_of a c e = grind (arith, nat_tests)

alike_of : (a c : ℕ) → a ≡ c → (a == c) ≡ true
alike_of a c e = grind (arith, nat_tests)

less_is : (a t : ℕ) → is_lt (nat_cmp a t) && not false ≡ nat_lt a t
less_is a t =
    elim (nat_lt a t) as (λ b. is_lt (cond b Less (cond (a == t) Equal Greater)) && not false ≡ b) [
      | true ↦ refl
      | false ↦ elim (a == t) as (λ d. is_lt (cond d Equal Greater) && not false ≡ false) [ true ↦ refl | false ↦ refl ]
    ]

own_first : (n c t : ℕ) → c ≡ n → is_le (ordering_then (nat_cmp n c) (nat_cmp 0 t)) && not false ≡ true
own_first n c t e =
    subst (λ m. is_le (ordering_then (nat_cmp m c) (nat_cmp 0 t)) && not false ≡ true) e
    (ap (λ o. is_le (ordering_then o (nat_cmp 0 t)) && not false) (tied_itself nat_cmp_total c) ∙ ap (λ b. b && not false) (zero_first t))

own_behind : (n c a t : ℕ) → c ≡ n → is_lt (ordering_then (nat_cmp n c) (nat_cmp a t)) && not false ≡ nat_lt a t
own_behind n c a t e =
    subst (λ m. is_lt (ordering_then (nat_cmp m c) (nat_cmp a t)) && not false ≡ nat_lt a t) e
    (ap (λ o. is_lt (ordering_then o (nat_cmp a t)) && not false) (tied_itself nat_cmp_total c) ∙ less_is a t)

-- of the connection's own, just those behind the tag do
from_own : (n : ℕ) (above : Option ℕ) (o : Owner) → (o.connection == n) ≡ true → stands_from n above o ≡ is_behind above o.tag
from_own n None o e = own_first n o.connection o.tag (same_of o.connection n e)
from_own n (Some a) o e = own_behind n o.connection a o.tag (same_of o.connection n e)

-- and of the others just some of later ones
from_later : (n : ℕ) (above : Option ℕ) (o : Owner) → stands_from n above o ≡ true
    → (nat_lt n o.connection || n == o.connection) ≡ true
from_later n None o e = by_le (nat_lt n o.connection) (n == o.connection) (nat_lt 0 o.tag) (0 == o.tag) e
  where
    by_le : (a b c d : Bool)
        → is_le (ordering_then (cond a Less (cond b Equal Greater)) (cond c Less (cond d Equal Greater))) && not false ≡ true
        → (a || b) ≡ true
    by_le true b c d e = refl
    by_le false true c d e = refl
    by_le false false c d e = e
from_later n (Some t) o e = by_lt (nat_lt n o.connection) (n == o.connection) (nat_lt t o.tag) (t == o.tag) e
  where
    by_lt : (a b c d : Bool)
        → is_lt (ordering_then (cond a Less (cond b Equal Greater)) (cond c Less (cond d Equal Greater))) && not false ≡ true
        → (a || b) ≡ true
    by_lt true b c d e = refl
    by_lt false true c d e = refl
    by_lt false false c d e = e

-- ---- one that is passed over

own_false : (a b : Bool) → (a ≡ true → b ≡ false) → (a && b) ≡ false
own_false true b f = f refl
own_false false b f = refl

skipped : (n : ℕ) (above : Option ℕ) (x : Owner × Query) → stands_from n above x.0 ≡ false → own n above (listen_of x) ≡ false
skipped n above x f =
    own_false (x.0.connection == n) (is_behind above x.0.tag) (λ e. sym (from_own n above x.0 e) ∙ f)

further : (above : Option ℕ) (s t : ℕ) → is_behind above s ≡ true → nat_lt s t ≡ true → is_behind above t ≡ true
further None s t e f = refl
further (Some a) s t e f = grind (arith, nat_tests)

skipped_behind : (n : ℕ) (above : Option ℕ) (e x : Owner × Query) → is_behind above e.0.tag ≡ true
    → stands_from n above x.0 ≡ false → own n (Some e.0.tag) (listen_of x) ≡ false
skipped_behind n above e x h skip =
    own_false (x.0.connection == n) (nat_lt e.0.tag x.0.tag) (λ s.
    elim (nat_lt e.0.tag x.0.tag) as (λ b. nat_lt e.0.tag x.0.tag ≡ b → b ≡ false) [
      | true ↦ λ f. absurd (true≢false (sym (further above e.0.tag x.0.tag h f) ∙ (sym (from_own n above x.0 s) ∙ skip)))
      | false ↦ λ f. refl
    ] refl)

-- ---- those behind one

less_tag : (o p : Owner) → o.connection ≡ p.connection → owner_cmp o p ≡ Less → nat_lt o.tag p.tag ≡ true
less_tag o p e l =
    let tied : nat_cmp o.connection p.connection ≡ Equal =
    ap (λ m. nat_cmp o.connection m) (sym e) ∙ tied_itself nat_cmp_total o.connection in
    let tags : nat_cmp o.tag p.tag ≡ Less = sym (ap (λ r. ordering_then r (nat_cmp o.tag p.tag)) tied) ∙ l in
    sym (less_is o.tag p.tag) ∙ ap (λ r. is_lt r && not false) tags

alike : (n : ℕ) (above : Option ℕ) (x y : Owner × Query) → (x.0.connection == n) ≡ true → is_behind above x.0.tag ≡ true
    → owner_cmp x.0 y.0 ≡ Less → own n above (listen_of y) ≡ own n (Some x.0.tag) (listen_of y)
alike n above x y o h less =
    elim (y.0.connection == n) as (λ b. (y.0.connection == n) ≡ b
    → (b && is_behind above y.0.tag) ≡ (b && nat_lt x.0.tag y.0.tag)) [
      | true ↦ λ s.
          let lt : nat_lt x.0.tag y.0.tag ≡ true =
          less_tag x.0 y.0 (same_of x.0.connection n o ∙ sym (same_of y.0.connection n s)) less in
          further above x.0.tag y.0.tag h lt ∙ sym lt
      | false ↦ λ s. refl
    ] refl

alike_all : (n : ℕ) (above : Option ℕ) (x : Owner × Query) (ys : Entries) → (x.0.connection == n) ≡ true
    → is_behind above x.0.tag ≡ true → All (λ p. owner_cmp x.0 p ≡ Less) (keys_of ys)
    → filter (own n above) (listens_of ys) ≡ filter (own n (Some x.0.tag)) (listens_of ys)
alike_all n above x [] o h less = refl
alike_all n above x (y ∷ ys) o h less =
    let one = alike n above x y o h (All-head (λ p. owner_cmp x.0 p ≡ Less) y.0 (keys_of ys) less) in
    let rest = alike_all n above x ys o h (All-tail (λ p. owner_cmp x.0 p ≡ Less) y.0 (keys_of ys) less) in
    λ i. cond (one i) (listen_of y ∷ rest i) (rest i)

less_itself : (t : ℕ) → nat_lt t t ≡ false
less_itself t = grind (arith, nat_tests)

here : (n : ℕ) (above : Option ℕ) (x : Owner × Query) (xs : Entries) → (x.0.connection == n) ≡ true
    → stands_from n above x.0 ≡ true → All (λ p. owner_cmp x.0 p ≡ Less) (keys_of xs)
    → filter (own n above) (listens_of (x ∷ xs)) ≡ listen_of x ∷ filter (own n (Some x.0.tag)) (listens_of (x ∷ xs))
here n above x xs o f less =
    let behind : is_behind above x.0.tag ≡ true = sym (from_own n above x.0 o) ∙ f in
    let itself : own n (Some x.0.tag) (listen_of x) ≡ false =
    own_false (x.0.connection == n) (nat_lt x.0.tag x.0.tag) (λ e. less_itself x.0.tag) in
    (λ i. cond (o i && behind i) (listen_of x ∷ filter (own n above) (listens_of xs)) (filter (own n above) (listens_of xs)))
    ∙ ap (λ ls. listen_of x ∷ ls) (alike_all n above x xs o behind less
    ∙ sym (ap (λ b. cond b (listen_of x ∷ filter (own n (Some x.0.tag)) (listens_of xs)) (filter (own n (Some x.0.tag)) (listens_of xs))) itself))

head_is : (f e : Owner × Query) (xs ys : Entries) → f ∷ xs ≡ e ∷ ys → f ≡ e
head_is f e xs ys g = ap (λ zs. get_or zs 0 e) g

stands : (n : ℕ) (above : Option ℕ) (es rest : Entries) (e : Owner × Query)
    → filter (λ (x : Owner × Query). stands_from n above x.0) es ≡ e ∷ rest → stands_from n above e.0 ≡ true
stands n above es rest e h =
    All-head (λ (x : Owner × Query). stands_from n above x.0 ≡ true) e rest
    (subst (All (λ (x : Owner × Query). stands_from n above x.0 ≡ true)) h
    (λ k d lt. filter_passes (λ (x : Owner × Query). stands_from n above x.0) es k d lt))

-- ---- the next one, if the first that is found is the connection's

next_is : (n : ℕ) (above : Option ℕ) (es rest : Entries) (e : Owner × Query) → AreByOwner es
    → filter (λ (x : Owner × Query). stands_from n above x.0) es ≡ e ∷ rest → (e.0.connection == n) ≡ true
    → filter (own n above) (listens_of es) ≡ listen_of e ∷ filter (own n (Some e.0.tag)) (listens_of es)
next_is n above [] rest e s h o = let none = ap length h in absurd (omega (arith, none))
next_is n above (x ∷ xs) rest e s h o =
    elim (stands_from n above x.0) as (λ b. stands_from n above x.0 ≡ b
    → cond b (x ∷ filter (λ (y : Owner × Query). stands_from n above y.0) xs) (filter (λ (y : Owner × Query). stands_from n above y.0) xs) ≡ e ∷ rest
    → filter (own n above) (listens_of (x ∷ xs)) ≡ listen_of e ∷ filter (own n (Some e.0.tag)) (listens_of (x ∷ xs))) [
      | true ↦ λ f g.
          let same : x ≡ e = head_is x e (filter (λ (y : Owner × Query). stands_from n above y.0) xs) rest g in
          subst (λ (y : Owner × Query). filter (own n above) (listens_of (x ∷ xs)) ≡ listen_of y ∷ filter (own n (Some y.0.tag)) (listens_of (x ∷ xs))) same
          (here n above x xs (subst (λ (y : Owner × Query). (y.0.connection == n) ≡ true) (sym same) o) f
          (All-after_first owner_cmp x.0 (keys_of xs) s))
      | false ↦ λ f g.
          let behind : is_behind above e.0.tag ≡ true = sym (from_own n above e.0 o) ∙ stands n above xs rest e g in
          ap (λ b. cond b (listen_of x ∷ filter (own n above) (listens_of xs)) (filter (own n above) (listens_of xs))) (skipped n above x f)
          ∙ next_is n above xs rest e (sorted_tail owner_cmp x.0 (keys_of xs) s) g o
          ∙ ap (λ ls. listen_of e ∷ ls) (sym (ap (λ b. cond b (listen_of x ∷ filter (own n (Some e.0.tag)) (listens_of xs)) (filter (own n (Some e.0.tag)) (listens_of xs)))
          (skipped_behind n above e x behind f)))
    ] refl h

-- ---- none

none_next : (n : ℕ) (above : Option ℕ) (es : Entries) → filter (λ (x : Owner × Query). stands_from n above x.0) es ≡ []
    → filter (own n above) (listens_of es) ≡ []
none_next n above [] h = refl
none_next n above (x ∷ xs) h =
    elim (stands_from n above x.0) as (λ b. stands_from n above x.0 ≡ b
    → cond b (x ∷ filter (λ (y : Owner × Query). stands_from n above y.0) xs) (filter (λ (y : Owner × Query). stands_from n above y.0) xs) ≡ []
    → filter (own n above) (listens_of (x ∷ xs)) ≡ []) [
      | true ↦ λ f g. let some = ap length g in absurd (omega (arith, some))
      | false ↦ λ f g.
          ap (λ b. cond b (listen_of x ∷ filter (own n above) (listens_of xs)) (filter (own n above) (listens_of xs))) (skipped n above x f)
          ∙ none_next n above xs g
    ] refl h

later_other : (n a : ℕ) → (nat_lt n a || n == a) ≡ true → (a == n) ≡ false → n < a
later_other n a h e = grind (arith, nat_tests)

behind_other : (n a b : ℕ) → n < a → (nat_lt a b || a == b) ≡ true → (b == n) ≡ false
behind_other n a b lt h = grind (arith, nat_tests)

far : (n : ℕ) (above : Option ℕ) (x : Owner × Query) (ys : Entries) → n < x.0.connection
    → All (λ p. owner_cmp x.0 p ≡ Less) (keys_of ys) → filter (own n above) (listens_of ys) ≡ []
far n above x [] lt less = refl
far n above x (y ∷ ys) lt less =
    let other : (y.0.connection == n) ≡ false = behind_other n x.0.connection y.0.connection lt
    (by_parts (nat_lt x.0.connection y.0.connection) (x.0.connection == y.0.connection) (nat_lt x.0.tag y.0.tag) (x.0.tag == y.0.tag)
    (All-head (λ p. owner_cmp x.0 p ≡ Less) y.0 (keys_of ys) less)) in
    ap (λ b. cond (b && is_behind above y.0.tag) (listen_of y ∷ filter (own n above) (listens_of ys)) (filter (own n above) (listens_of ys))) other
    ∙ far n above x ys lt (All-tail (λ p. owner_cmp x.0 p ≡ Less) y.0 (keys_of ys) less)
  where
    by_parts : (a b c d : Bool) → ordering_then (cond a Less (cond b Equal Greater)) (cond c Less (cond d Equal Greater)) ≡ Less
        → (a || b) ≡ true
    by_parts true b c d e = refl
    by_parts false true c d e = refl
    by_parts false false c d e = ap is_lt e

none_beyond : (n : ℕ) (above : Option ℕ) (es rest : Entries) (e : Owner × Query) → AreByOwner es
    → filter (λ (x : Owner × Query). stands_from n above x.0) es ≡ e ∷ rest → (e.0.connection == n) ≡ false
    → filter (own n above) (listens_of es) ≡ []
none_beyond n above [] rest e s h o = refl
none_beyond n above (x ∷ xs) rest e s h o =
    elim (stands_from n above x.0) as (λ b. stands_from n above x.0 ≡ b
    → cond b (x ∷ filter (λ (y : Owner × Query). stands_from n above y.0) xs) (filter (λ (y : Owner × Query). stands_from n above y.0) xs) ≡ e ∷ rest
    → filter (own n above) (listens_of (x ∷ xs)) ≡ []) [
      | true ↦ λ f g.
          let same : x ≡ e = head_is x e (filter (λ (y : Owner × Query). stands_from n above y.0) xs) rest g in
          let other : (x.0.connection == n) ≡ false = subst (λ (y : Owner × Query). (y.0.connection == n) ≡ false) (sym same) o in
          ap (λ b. cond (b && is_behind above x.0.tag) (listen_of x ∷ filter (own n above) (listens_of xs)) (filter (own n above) (listens_of xs))) other
          ∙ far n above x xs (later_other n x.0.connection (from_later n above x.0 f) other)
          (All-after_first owner_cmp x.0 (keys_of xs) s)
      | false ↦ λ f g.
          ap (λ b. cond b (listen_of x ∷ filter (own n above) (listens_of xs)) (filter (own n above) (listens_of xs))) (skipped n above x f)
          ∙ none_beyond n above xs rest e (sorted_tail owner_cmp x.0 (keys_of xs) s) g o
    ] refl h

-- ---- what a search finds

abbrev pub IsFrom : Bound Owner → Entries → Entries → Type 0
IsFrom from es left = left ≡ filter (λ (e : Owner × Query). is_from_start owner_cmp from e.0 && not false) es

found : (n : ℕ) (above : Option ℕ) (es left all : Entries) (from : Bound Owner) → from ≡ start_of n above → IsFrom from es left
    → left ≡ all → filter (λ (x : Owner × Query). stands_from n above x.0) es ≡ all
found n above es left all from at is begins =
    sym (is ∙ ap (λ (b : Bound Owner). filter (λ (e : Owner × Query). is_from_start owner_cmp b e.0 && not false) es) at) ∙ begins

pub next_among : (n : ℕ) (above : Option ℕ) (es : Entries) (now : List Listen) (left rest : Entries) (e : Owner × Query)
    (q : Query) (from : Bound Owner) → AreByOwner es → listens_of es ≡ now → from ≡ start_of n above → IsFrom from es left
    → left ≡ e ∷ rest → e.0.connection ≡ n → q ≡ e.1
    → listens_behind n above now
    ≡ record { connection = n; tag = e.0.tag; query = q } ∷ listens_behind n (Some e.0.tag) now
next_among n above es now left rest e q from s view at is begins o same =
    subst (λ ls. listens_behind n above ls ≡ record { connection = n; tag = e.0.tag; query = q } ∷ listens_behind n (Some e.0.tag) ls) view
    (next_is n above es rest e s (found n above es left (e ∷ rest) from at is begins) (alike_of e.0.connection n o)
    ∙ (λ i. record { connection = o i; tag = e.0.tag; query = sym same i } ∷ filter (own n (Some e.0.tag)) (listens_of es)))

pub next_of_other : (n : ℕ) (above : Option ℕ) (es : Entries) (now : List Listen) (left rest : Entries) (e : Owner × Query)
    (from : Bound Owner) → AreByOwner es → listens_of es ≡ now → from ≡ start_of n above → IsFrom from es left
    → left ≡ e ∷ rest → (e.0.connection == n) ≡ false → listens_behind n above now ≡ []
next_of_other n above es now left rest e from s view at is begins o =
    ap (listens_behind n above) (sym view)
    ∙ none_beyond n above es rest e s (found n above es left (e ∷ rest) from at is begins) o

pub next_of_none : (n : ℕ) (above : Option ℕ) (es : Entries) (now : List Listen) (left : Entries) (from : Bound Owner)
    → listens_of es ≡ now → from ≡ start_of n above → IsFrom from es left → left ≡ [] → listens_behind n above now ≡ []
next_of_none n above es now left from view at is none =
    ap (listens_behind n above) (sym view) ∙ none_next n above es (found n above es left [] from at is none)
