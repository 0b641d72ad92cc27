-- What the listens are sent that entries concern, owner by owner, is what all are sent.
use Rattle.std.proofs.Common.{◌≡◌, ℕ, ◌==◌, nat_lt, Bool, true, false, cond, not, ◌||◌, ◌&&◌, List, [], ◌∷◌, ◌++◌, map, get_or, append_assoc, append-nil, refl, sym, ap, ◌∙◌, arith}
use mathlib.Core.Bool.{true≢false}
use Rattle.std.specs.List.{All, AllPairs, filter, flat_map, list_any, list_all}
use Rattle.std.specs.List.Sorted.{IsStrictlySortedBy}
use Rattle.std.specs.Ordering.{nat_cmp, is_eq, ordering_then}
use Rattle.std.specs.Cmp.{tied_itself}
use Rattle.std.specs.declared.cmp.Ordering.{Ordering}
use Rattle.std.specs.declared.cmp.Ordering.TheVariants.{Less, Equal, Greater}
use Rattle.std.proofs.lemmas.Bool.Decides.{nat_tests}
use Rattle.std.proofs.lemmas.List.Elements.{All-head, All-tail, filter-append}
use Rattle.std.proofs.lemmas.List.{map-append}
use Rattle.std.proofs.lemmas.Map.Keys.{sorted_tail}
use Rattle.std.proofs.lemmas.Map.Views.{All-after_first}
use Rattle.rt_tree.specs.PathTree.{Path, PathTree, sub}
use Rattle.rt_tree.specs.Trees.{tree_eq}
use Rattle.rt_tree.specs.Assignments.{Assignment, do_overlap, is_at_or_above}
use Rattle.rt_peer.specs.Peers.{Listen, is_at, is_before}
use Rattle.rt_peer.specs.Pushes.{is_changed, push_of, pushes, written}
use Rattle.rt_peer.specs.declared.pushes.Sent.{Sent}
use Rattle.rt_peer.specs.declared.listens.Owner.{Owner}
use Rattle.rt_peer.specs.inside.Spots.{owner_cmp, owners_total, owner_of, spot_of, has_owner, is_concerned}
use Rattle.rt_peer.specs.inside.Standing.{leaves_part, stands}
use Rattle.rt_peer.proofs.PlaceLaws.{Rise}
use Rattle.rt_peer.proofs.Places.{pairs_head, pairs_tail}
use Rattle.rt_peer.proofs.StandingLaws.{unchanged}

-- ---- owners and listens

abbrev pub is_own : Owner → Listen → Bool
is_own o l = is_at o.connection o.tag l

lt_other : (a c : ℕ) → nat_lt a c ≡ true → (a == c) ≡ false
lt_other a c e = grind (arith, nat_tests)

pub same_of : (a c : ℕ) → (a == c) ≡ true → a ≡ c
same_of a c e = grind (arith, nat_tests)

pub eq_is : (a c : ℕ) → is_eq (nat_cmp a c) ≡ (a == c)
eq_is a c =
    elim (nat_lt a c) as (λ b. nat_lt a c ≡ b → is_eq (cond b Less (cond (a == c) Equal Greater)) ≡ (a == c)) [
      | true ↦ λ e. sym (lt_other a c e)
      | false ↦ λ e. elim (a == c) as (λ d. is_eq (cond d Equal Greater) ≡ d) [ true ↦ refl | false ↦ refl ]
    ] refl

then_is : (x y : Ordering) → is_eq (ordering_then x y) ≡ (is_eq x && is_eq y)
then_is Less y = refl
then_is Equal y = refl
then_is Greater y = refl

-- a listen's owner is this one where the listen is its own
pub own_is : (o : Owner) (l : Listen) → is_eq (owner_cmp (owner_of l) o) ≡ is_own o l
own_is o l =
    then_is (nat_cmp l.connection o.connection) (nat_cmp l.tag o.tag)
    ∙ (λ i. eq_is l.connection o.connection i && eq_is l.tag o.tag i)

both_first : (a b : Bool) → (a && b) ≡ true → a ≡ true
both_first true b e = refl
both_first false b e = e

both_second : (a b : Bool) → (a && b) ≡ true → b ≡ true
both_second true b e = e
both_second false b e = absurd (true≢false (sym e))

pub own_owner : (o : Owner) (l : Listen) → is_own o l ≡ true → owner_of l ≡ o
own_owner o l e =
    let first : l.connection ≡ o.connection = same_of l.connection o.connection (both_first (l.connection == o.connection) (l.tag == o.tag) e) in
    let second : l.tag ≡ o.tag = same_of l.tag o.tag (both_second (l.connection == o.connection) (l.tag == o.tag) e) in
    λ i. record { connection = first i; tag = second i }

before_less : (l m : Listen) → is_before l m ≡ true → owner_cmp (owner_of l) (owner_of m) ≡ Less
before_less l m e = by_parts (nat_lt l.connection m.connection) (l.connection == m.connection) (nat_lt l.tag m.tag) (l.tag == m.tag) e
  where
    by_parts : (a b c d : Bool) → (a || b && c) ≡ true
        → ordering_then (cond a Less (cond b Equal Greater)) (cond c Less (cond d Equal Greater)) ≡ Less
    by_parts true b c d e = refl
    by_parts false true true d e = refl
    by_parts false true false d e = absurd (true≢false (sym e))
    by_parts false false c d e = absurd (true≢false (sym e))

-- whose listen is of a later owner, is later
later_of : (o : Owner) (rest : List Owner) (l : Listen) → All (λ r. owner_cmp o r ≡ Less) rest
    → list_any (λ r. is_own r l) rest ≡ true → owner_cmp o (owner_of l) ≡ Less
later_of o [] l h e = absurd (true≢false (sym e))
later_of o (r ∷ rest) l h e =
    elim (is_own r l) as (λ b. is_own r l ≡ b → (b || list_any (λ q. is_own q l) rest) ≡ true → owner_cmp o (owner_of l) ≡ Less) [
      | true ↦ λ f g. ap (owner_cmp o) (own_owner r l f) ∙ All-head (λ q. owner_cmp o q ≡ Less) r rest h
      | false ↦ λ f g. later_of o rest l (All-tail (λ q. owner_cmp o q ≡ Less) r rest h) g
    ] refl e

not_own : (o : Owner) (l : Listen) → owner_cmp o (owner_of l) ≡ Less → is_own o l ≡ false
not_own o l less =
    elim (is_own o l) as (λ b. is_own o l ≡ b → b ≡ false) [
      | true ↦ λ e. absurd (true≢false (sym (ap is_eq (sym less ∙ ap (owner_cmp o) (own_owner o l e) ∙ tied_itself owners_total o))))
      | false ↦ λ e. refl
    ] refl

-- ---- one filter behind another

none_of : {X : Type 0} (p : X → Bool) (xs : List X) → All (λ x. p x ≡ false) xs → filter p xs ≡ []
none_of p [] h = refl
none_of p (x ∷ xs) h =
    ap (λ b. cond b (x ∷ filter p xs) (filter p xs)) (All-head (λ y. p y ≡ false) x xs h)
    ∙ none_of p xs (All-tail (λ y. p y ≡ false) x xs h)

-- where what the second lets through has none behind it that the first lets through
filter_then : {X : Type 0} (p q : X → Bool) (xs : List X) → AllPairs (λ x y. q x ≡ true → p y ≡ false) xs
    → ((x : X) → p x ≡ true → q x ≡ false) → filter p xs ++ filter q xs ≡ filter (λ x. p x || q x) xs
filter_then p q [] pairs apart = refl
filter_then p q (x ∷ xs) pairs apart =
    let rest = filter_then p q xs (pairs_tail (λ x y. q x ≡ true → p y ≡ false) x xs pairs) apart in
    elim (p x) as (λ b. p x ≡ b → cond b (x ∷ filter p xs) (filter p xs) ++ cond (q x) (x ∷ filter q xs) (filter q xs)
    ≡ cond (b || q x) (x ∷ filter (λ y. p y || q y) xs) (filter (λ y. p y || q y) xs)) [
      | true ↦ λ e. ap (λ c. x ∷ (filter p xs ++ cond c (x ∷ filter q xs) (filter q xs))) (apart x e)
          ∙ ap (λ ys. x ∷ ys) rest
      | false ↦ λ e. elim (q x) as (λ c. q x ≡ c → filter p xs ++ cond c (x ∷ filter q xs) (filter q xs)
          ≡ cond c (x ∷ filter (λ y. p y || q y) xs) (filter (λ y. p y || q y) xs)) [
            | true ↦ λ f.
                let none : filter p xs ≡ [] = none_of p xs
                (λ k d lt. pairs_head (λ x y. q x ≡ true → p y ≡ false) x xs pairs k d lt f) in
                ap (λ ys. ys ++ x ∷ filter q xs) none
                ∙ ap (λ ys. x ∷ (ys ++ filter q xs)) (sym none)
                ∙ ap (λ ys. x ∷ ys) rest
            | false ↦ λ f. rest
          ] refl
    ] refl

-- owner by owner
owned : (os : List Owner) (ls : List Listen) → IsStrictlySortedBy owner_cmp os → AllPairs Rise ls
    → flat_map (λ o. filter (is_own o) ls) os ≡ filter (λ l. list_any (λ o. is_own o l) os) ls
owned [] ls rise up = sym (none_of (λ l. false) ls (λ k d lt. refl))
owned (o ∷ os) ls rise up =
    let after = All-after_first owner_cmp o os rise in
    ap (λ xs. filter (is_own o) ls ++ xs) (owned os ls (sorted_tail owner_cmp o os rise) up)
    ∙ filter_then (is_own o) (λ l. list_any (λ r. is_own r l) os) ls
    (λ i j d lt within e.
    let x : Listen = get_or ls i d in
    let y : Listen = get_or ls j d in
    not_own o y (owners_total.trans o (owner_of x) (owner_of y) (later_of o os x after e) (before_less x y (up i j d lt within))))
    (λ l e. elim (list_any (λ r. is_own r l) os) as (λ b. list_any (λ r. is_own r l) os ≡ b → b ≡ false) [
      | true ↦ λ f. absurd (true≢false (sym e ∙ not_own o l (later_of o os l after f)))
      | false ↦ λ f. refl
    ] refl)

-- ---- what is changed among them

filter_flat : {X Y : Type 0} (p : Y → Bool) (f : X → List Y) (xs : List X)
    → flat_map (λ x. filter p (f x)) xs ≡ filter p (flat_map f xs)
filter_flat p f [] = refl
filter_flat p f (x ∷ xs) =
    ap (λ ys. filter p (f x) ++ ys) (filter_flat p f xs) ∙ sym (filter-append p (f x) (flat_map f xs))

map_flat : {X Y Z : Type 0} (g : Y → Z) (f : X → List Y) (xs : List X)
    → flat_map (λ x. map g (f x)) xs ≡ map g (flat_map f xs)
map_flat g f [] = refl
map_flat g f (x ∷ xs) =
    ap (λ ys. map g (f x) ++ ys) (map_flat g f xs) ∙ sym (map-append g (f x) (flat_map f xs))

pub within : {X : Type 0} (p q : X → Bool) (ls : List X) → All (λ l. p l ≡ true → q l ≡ true) ls
    → filter p (filter q ls) ≡ filter p ls
within p q [] h = refl
within p q (l ∷ ls) h =
    let rest = within p q ls (All-tail (λ l. p l ≡ true → q l ≡ true) l ls h) in
    let here = All-head (λ l. p l ≡ true → q l ≡ true) l ls h in
    elim (q l) as (λ b. q l ≡ b → filter p (cond b (l ∷ filter q ls) (filter q ls)) ≡ cond (p l) (l ∷ filter p ls) (filter p ls)) [
      | true ↦ λ e. ap (λ ys. cond (p l) (l ∷ ys) ys) rest
      | false ↦ λ e. elim (p l) as (λ b. p l ≡ b → filter p (filter q ls) ≡ cond b (l ∷ filter p ls) (filter p ls)) [
        | true ↦ λ f. absurd (true≢false (sym (here f) ∙ e))
        | false ↦ λ f. rest
      ] refl
    ] refl

owner_there : (os : List Owner) (l : Listen) → has_owner os (owner_of l) ≡ list_any (λ o. is_own o l) os
owner_there [] l = refl
owner_there (o ∷ os) l = λ i. own_is o l i || owner_there os l i

pub pushed_found : (t u : PathTree) (es : List Assignment) (os : List Owner) (ls : List Listen)
    → IsStrictlySortedBy owner_cmp os → AllPairs Rise ls
    → All (λ l. is_changed t u l ≡ true → has_owner os (owner_of l) ≡ true) ls
    → flat_map (λ o. pushes t u es (filter (is_own o) ls)) os ≡ pushes t u es ls
pushed_found t u es os ls rise up h =
    let told : Listen → Sent = λ l. record { to = l.connection; message = push_of u es l } in
    map_flat told (λ o. filter (is_changed t u) (filter (is_own o) ls)) os
    ∙ ap (map told) (filter_flat (is_changed t u) (λ o. filter (is_own o) ls) os
    ∙ ap (filter (is_changed t u)) (owned os ls rise up)
    ∙ within (is_changed t u) (λ l. list_any (λ o. is_own o l) os) ls
    (λ k d lt e. sym (owner_there os (get_or ls k d)) ∙ h k d lt e))

-- ---- whom no entry concerns

or_first : (b c : Bool) → (b || c) ≡ false → b ≡ false
or_first true c e = e
or_first false c e = refl

or_second : (b c : Bool) → (b || c) ≡ false → c ≡ false
or_second true c e = absurd (true≢false e)
or_second false c e = e

none_above : (p : Path) (es : List Assignment) → list_any (λ a. do_overlap a.0 p) es ≡ false
    → list_any (λ a. is_at_or_above a.0 p) es ≡ false
none_above p [] e = refl
none_above p (a ∷ es) e =
    let others : Bool = list_any (λ (x : Assignment). do_overlap x.0 p) es in
    let here = or_first (is_at_or_above a.0 p) (is_at_or_above p a.0) (or_first (do_overlap a.0 p) others e) in
    let rest = none_above p es (or_second (do_overlap a.0 p) others e) in
    ap (λ b. b || list_any (λ x. is_at_or_above x.0 p) es) here ∙ rest

all_stand : (t : PathTree) (p : Path) (es : List Assignment) → list_any (λ a. do_overlap a.0 p) es ≡ false
    → list_all (stands t p) es ≡ true
all_stand t p [] e = refl
all_stand t p (a ∷ es) e =
    let others : Bool = list_any (λ (x : Assignment). do_overlap x.0 p) es in
    let here = or_second (is_at_or_above a.0 p) (is_at_or_above p a.0) (or_first (do_overlap a.0 p) others e) in
    ap (λ b. (not b || tree_eq (sub t a.0) a.1) && list_all (stands t p) es) here
    ∙ all_stand t p es (or_second (do_overlap a.0 p) others e)

-- an entry that doesn't concern it leaves what it shows
pub apart_stays : (t : PathTree) (es : List Assignment) (l : Listen) → is_concerned es (spot_of l) ≡ false
    → leaves_part t l.query.path es ≡ true
apart_stays t es l f = λ i. not (none_above l.query.path es f i) && all_stand t l.query.path es f i

pub concerned_if : (t : PathTree) (es : List Assignment) (l : Listen) → is_changed t (written t es) l ≡ true
    → is_concerned es (spot_of l) ≡ true
concerned_if t es l e =
    elim (is_concerned es (spot_of l)) as (λ b. is_concerned es (spot_of l) ≡ b → b ≡ true) [
      | true ↦ λ f. refl
      | false ↦ λ f. absurd (true≢false (sym e ∙ unchanged t es l (apart_stays t es l f)))
    ] refl

-- ---- owner by owner, as they are gone over

abbrev pub owned_pushes : PathTree → PathTree → List Assignment → List Listen → Owner → List Sent
owned_pushes t u es ls o = pushes t u es (filter (is_own o) ls)

pub pushes_begun : (t u : PathTree) (es : List Assignment) (ls : List Listen) (os left : List Owner)
    (sent : List Sent) → sent ≡ [] → left ≡ os → u ≡ written t es → IsStrictlySortedBy owner_cmp os
    → AllPairs Rise ls → All (λ l. is_concerned es (spot_of l) ≡ true → has_owner os (owner_of l) ≡ true) ls
    → sent ++ flat_map (owned_pushes t u es ls) left ≡ pushes t u es ls
pushes_begun t u es ls os left sent none is made rise up all =
    ap (λ xs. xs ++ flat_map (owned_pushes t u es ls) left) none
    ∙ ap (flat_map (owned_pushes t u es ls)) is
    ∙ pushed_found t u es os ls rise up (λ k d lt e.
    let l : Listen = get_or ls k d in
    all k d lt (concerned_if t es l (ap (λ w. is_changed t w l) (sym made) ∙ e)))

pub pushes_more : (t u : PathTree) (es : List Assignment) (ls : List Listen) (left rest : List Owner) (o : Owner)
    (old new all : List Sent) → left ≡ o ∷ rest → new ≡ old ++ owned_pushes t u es ls o
    → old ++ flat_map (owned_pushes t u es ls) left ≡ all → new ++ flat_map (owned_pushes t u es ls) rest ≡ all
pushes_more t u es ls left rest o old new all is more h =
    ap (λ xs. xs ++ flat_map (owned_pushes t u es ls) rest) more
    ∙ append_assoc old (owned_pushes t u es ls o) (flat_map (owned_pushes t u es ls) rest)
    ∙ ap (λ xs. old ++ flat_map (owned_pushes t u es ls) xs) (sym is)
    ∙ h

pub pushes_done : (t u : PathTree) (es : List Assignment) (ls : List Listen) (left : List Owner)
    (sent all : List Sent) → left ≡ [] → sent ++ flat_map (owned_pushes t u es ls) left ≡ all → sent ≡ all
pushes_done t u es ls left sent all none h =
    sym (append-nil sent) ∙ ap (λ xs. sent ++ flat_map (owned_pushes t u es ls) xs) (sym none) ∙ h
