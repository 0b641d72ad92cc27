-- How many listens start once some listeners end: as many as listeners that are left, for whose form
-- no listen is kept, and that no other replaces.
use Rattle.std.proofs.Common.{◌≡◌, ℕ, ◌+◌, ◌<◌, ◌≤◌, nat_lt, Bool, true, false, cond, not, ◌&&◌, ◌||◌, List, [], ◌∷◌, map, length, refl, sym, ap, ◌∙◌, arith, ltb-true, ltb-false}
use Rattle.std.specs.List.{filter, list_any, count_by, All, AllPairs, Contains}
use Rattle.std.proofs.lemmas.List.Elements.{All-contains}
use Rattle.std.proofs.lemmas.List.Folds.{Any-from_list_any, list_any_at, list_any_none}
use Rattle.std.proofs.lemmas.List.Kept.{AllPairs-filter}
use Rattle.std.proofs.lemmas.List.Sums.{length-filter, count_by-le-length}
use Rattle.rt_query.specs.Queries.{Query}
use Rattle.rt_query.specs.QueryEq.{query_eq}
use Rattle.rt_query.specs.Supply.{does_supply}
use Rattle.rt_cover.specs.Cover.{Registered, Tagged, forms, is_kept, needed}
use Rattle.rt_cover.specs.State.{Cover, needed_forms, started_for, lacks_tag}
use Rattle.rt_cover.specs.inside.Endings.{left, comes_before, starts}
use Rattle.rt_cover.specs.inside.Sound.{IsSound}
use Rattle.rt_cover.specs.laws.CoverLaws.{is_covered}
use Rattle.rt_cover.specs.laws.FormLaws.{same_tests}
use Rattle.rt_cover.specs.laws.KeepLaws.{forms-started, length_of_map}
use Rattle.rt_cover.specs.laws.Pairs.{AllPairs-first, AllPairs-rest, All-from_contained, filter_agreeing}
use Rattle.rt_cover.specs.laws.ShownLaws.{found, form_in}
use Rattle.rt_cover.specs.laws.SoundLaws.{new_forms}
use Rattle.rt_cover.proofs.SeenLaws.{filter_both}

-- ---- tests of lists

-- one that is contained settles the answer
pub list_any_with : {X : Type 0} (p : X → Bool) (xs : List X) (x : X) → Contains xs x → p x ≡ true → list_any p xs ≡ true
list_any_with p xs x m e = list_any_at p xs m.0 x m.1 (ap p m.2 ∙ e)

-- tests that agree
pub list_any_agreeing : {X : Type 0} (p q : X → Bool) (xs : List X) → ((x : X) → p x ≡ q x) → list_any p xs ≡ list_any q xs
list_any_agreeing p q [] h = refl
list_any_agreeing p q (x ∷ xs) h = λ i. h x i || list_any_agreeing p q xs h i

-- either of two tests
pub list_any_either : {X : Type 0} (p q : X → Bool) (xs : List X) → list_any (λ x. p x || q x) xs ≡ (list_any p xs || list_any q xs)
list_any_either p q [] = refl
list_any_either p q (x ∷ xs) = ap (λ b. (p x || q x) || b) (list_any_either p q xs) ∙ mixed (p x) (q x) (list_any p xs) (list_any q xs)
  where
    mixed : (a b c d : Bool) → ((a || b) || (c || d)) ≡ ((a || c) || (b || d))
    mixed true b c d = refl
    mixed false true true d = refl
    mixed false true false d = refl
    mixed false false c d = refl

-- a test of those that pass another
pub list_any_filtered : {X : Type 0} (p q : X → Bool) (xs : List X) → list_any (λ x. p x && q x) xs ≡ list_any q (filter p xs)
list_any_filtered p q [] = refl
list_any_filtered p q (x ∷ xs) =
    elim (p x) as (λ b. ((b && q x) || list_any (λ y. p y && q y) xs) ≡ list_any q (cond b (x ∷ filter p xs) (filter p xs))) [
      | true ↦ ap (λ b. q x || b) (list_any_filtered p q xs)
      | false ↦ list_any_filtered p q xs
    ]

-- a test of the forms is one of the listeners
list_any_forms : (h : Query → Bool) (ls : List Registered) → list_any h (forms ls) ≡ list_any (λ (l : Registered). h l.1) ls
list_any_forms h ls = same_tests (list_any h (forms ls)) (list_any (λ (l : Registered). h l.1) ls)
    (λ e. let a = Any-from_list_any h (forms ls) e in
    let r = found ls a.1 (a.0, a.2, a.3) in
    list_any_with (λ (l : Registered). h l.1) ls r.0 r.1 (ap h r.2 ∙ a.4))
    (λ e. let a = Any-from_list_any (λ (l : Registered). h l.1) ls e in
    list_any_with h (forms ls) (a.1).1 (form_in ls a.1 (a.0, a.2, a.3)) a.4)

-- ---- each form by its first listener

-- whether a listener of a lesser number has its form
abbrev pub is_seen : List Registered → Registered → Bool
is_seen ls l = list_any (λ (m : Registered). query_eq m.1 l.1 && nat_lt m.0 l.0) ls

pub lt_false : (m n : ℕ) → n ≤ m → nat_lt m n ≡ false
lt_false m n h = elim (nat_lt m n) as (λ b. nat_lt m n ≡ b → b ≡ false) [
  | true ↦ λ e. absurd (omega (arith, h, ltb-true m n e))
  | false ↦ λ _. refl
] refl

pub lt_true : (m n : ℕ) → m < n → nat_lt m n ≡ true
lt_true m n h = elim (nat_lt m n) as (λ b. nat_lt m n ≡ b → b ≡ true) [
  | true ↦ λ _. refl
  | false ↦ λ e. absurd (omega (arith, h, ltb-false m n e))
] refl

-- one listener more in front
first_more : (p : Query → Bool) (l : Registered) (ls : List Registered) → AllPairs (λ (l m : Registered). l.0 < m.0) (l ∷ ls)
    → filter (λ g. not (query_eq l.1 g) && p g) (forms ls)
    ≡ map (λ (m : Registered). m.1) (filter (λ (m : Registered). (not (query_eq l.1 m.1) && p m.1) && not (is_seen ls m)) ls)
    → filter p (forms (l ∷ ls)) ≡ map (λ (m : Registered). m.1) (filter (λ (m : Registered). p m.1 && not (is_seen (l ∷ ls) m)) (l ∷ ls))
first_more p l ls rise more =
    (λ i. cond (p l.1) (l.1 ∷ others i) (others i))
    ∙ both (p l.1)
    ∙ ap (λ b. map (λ (m : Registered). m.1) (cond (p l.1 && not b) (l ∷ filter after ls) (filter after ls))) (sym new)
  where
    q : Query → Bool
    q g = not (query_eq l.1 g) && p g

    after : Registered → Bool
    after m = p m.1 && not (is_seen (l ∷ ls) m)

    higher : All (λ (m : Registered). l.0 < m.0) ls
    higher = AllPairs-first (λ (x y : Registered). x.0 < y.0) l ls rise

    others : filter p (filter (λ g. not (query_eq l.1 g)) (forms ls)) ≡ filter q (forms ls)
    others = filter_both p (λ g. not (query_eq l.1 g)) q (λ g. refl) (forms ls)

    new : is_seen (l ∷ ls) l ≡ false
    new = (λ i. (query_eq l.1 l.1 && lt_false l.0 l.0 (omega arith) i) || rest i) ∙ none (query_eq l.1 l.1)
      where
        rest : is_seen ls l ≡ false
        rest = list_any_none (λ (m : Registered). query_eq m.1 l.1 && nat_lt m.0 l.0) ls
            (All-from_contained (λ (m : Registered). (query_eq m.1 l.1 && nat_lt m.0 l.0) ≡ false) ls (λ m there.
            let above : l.0 < m.0 = All-contains (λ (x : Registered). l.0 < x.0) ls m higher there in
            ap (λ b. query_eq m.1 l.1 && b) (lt_false m.0 l.0 (omega (arith, above))) ∙ never (query_eq m.1 l.1)))
          where
            never : (b : Bool) → (b && false) ≡ false
            never true = refl
            never false = refl

        none : (b : Bool) → ((b && false) || false) ≡ false
        none true = refl
        none false = refl

    same : filter (λ (m : Registered). q m.1 && not (is_seen ls m)) ls ≡ filter after ls
    same = filter_agreeing (λ (m : Registered). q m.1 && not (is_seen ls m)) after ls
        (All-from_contained (λ (m : Registered). (q m.1 && not (is_seen ls m)) ≡ after m) ls (λ m there.
        let above : l.0 < m.0 = All-contains (λ (x : Registered). l.0 < x.0) ls m higher there in
        mixed (query_eq l.1 m.1) (p m.1) (is_seen ls m)
        ∙ ap (λ b. p m.1 && not ((query_eq l.1 m.1 && b) || is_seen ls m)) (sym (lt_true l.0 m.0 above))))
      where
        mixed : (a b c : Bool) → ((not a && b) && not c) ≡ (b && not ((a && true) || c))
        mixed true true c = refl
        mixed true false c = refl
        mixed false true c = refl
        mixed false false c = refl

    rest : filter q (forms ls) ≡ map (λ (m : Registered). m.1) (filter after ls)
    rest = more ∙ ap (map (λ (m : Registered). m.1)) same

    both : (b : Bool) → cond b (l.1 ∷ filter q (forms ls)) (filter q (forms ls))
        ≡ map (λ (m : Registered). m.1) (cond (b && true) (l ∷ filter after ls) (filter after ls))
    both true = ap (λ z. l.1 ∷ z) rest
    both false = rest

-- the forms that pass are those of the first listeners of such
pub forms_of_firsts : (p : Query → Bool) (ls : List Registered) → AllPairs (λ (l m : Registered). l.0 < m.0) ls
    → filter p (forms ls) ≡ map (λ (l : Registered). l.1) (filter (λ (l : Registered). p l.1 && not (is_seen ls l)) ls)
forms_of_firsts p [] rise = refl
forms_of_firsts p (l ∷ ls) rise = first_more p l ls rise
    (forms_of_firsts (λ g. not (query_eq l.1 g) && p g) ls (AllPairs-rest (λ (x y : Registered). x.0 < y.0) l ls rise))

-- ---- what starts

-- supplied by another form, or seen: another comes before it
pub before_either : (ls : List Registered) (l : Registered)
    → list_any (λ (m : Registered). comes_before m l) ls
    ≡ (list_any (λ (m : Registered). not (query_eq m.1 l.1) && does_supply m.1 l.1) ls || is_seen ls l)
before_either ls l =
    list_any_agreeing (λ (m : Registered). comes_before m l)
    (λ (m : Registered). (not (query_eq m.1 l.1) && does_supply m.1 l.1) || (query_eq m.1 l.1 && nat_lt m.0 l.0)) ls
    (λ m. either (query_eq m.1 l.1) (nat_lt m.0 l.0) (does_supply m.1 l.1))
    ∙ list_any_either (λ (m : Registered). not (query_eq m.1 l.1) && does_supply m.1 l.1)
    (λ (m : Registered). query_eq m.1 l.1 && nat_lt m.0 l.0) ls
  where
    either : (a b c : Bool) → cond a b c ≡ ((not a && c) || (a && b))
    either true b c = refl
    either false true true = refl
    either false true false = refl
    either false false true = refl
    either false false false = refl

-- by the forms: covered, or seen
replaced : (ls : List Registered) (l : Registered)
    → list_any (λ (m : Registered). comes_before m l) ls ≡ (is_covered (forms ls) l.1 || is_seen ls l)
replaced ls l = before_either ls l
    ∙ ap (λ b. b || is_seen ls l) (sym (list_any_forms (λ g. not (query_eq g l.1) && does_supply g l.1) ls))

-- the new forms are those of the listeners for whom a listen starts
pub started_by_listeners : (ends : Registered → Bool) (kept : List Tagged) (ls : List Registered) → AllPairs (λ (l m : Registered). l.0 < m.0) ls
    → new_forms kept (needed (forms (left ends ls))) ≡ map (λ (l : Registered). l.1) (filter (starts ends kept ls) ls)
started_by_listeners ends kept ls rise =
    filter_both (λ f. not (is_kept kept f)) (λ f. not (is_covered (forms here) f)) p (λ f. refl) (forms here)
    ∙ forms_of_firsts p here (AllPairs-filter (λ (l m : Registered). l.0 < m.0) stay ls rise)
    ∙ ap (map (λ (l : Registered). l.1)) (filter_both (λ (l : Registered). p l.1 && not (is_seen here l)) stay (starts ends kept ls) each ls)
  where
    stay : Registered → Bool
    stay l = not (ends l)

    here : List Registered
    here = left ends ls

    p : Query → Bool
    p f = not (is_covered (forms here) f) && not (is_kept kept f)

    mixed : (a b c d : Bool) → (a && ((not b && not c) && not d)) ≡ (a && (not c && not (b || d)))
    mixed true true true d = refl
    mixed true true false d = refl
    mixed true false true d = refl
    mixed true false false d = refl
    mixed false b c d = refl

    each : (l : Registered) → (stay l && (p l.1 && not (is_seen here l))) ≡ starts ends kept ls l
    each l = mixed (stay l) (is_covered (forms here) l.1) (is_kept kept l.1) (is_seen here l)
        ∙ ap (λ b. stay l && (not (is_kept kept l.1) && not b))
        (sym (list_any_filtered stay (λ (m : Registered). comes_before m l) ls ∙ replaced here l))

pub count_started : (ends : Registered → Bool) (kept : List Tagged) (ls : List Registered) → AllPairs (λ (l m : Registered). l.0 < m.0) ls
    → length (new_forms kept (needed (forms (left ends ls)))) ≡ length (filter (starts ends kept ls) ls)
count_started ends kept ls rise = ap length (started_by_listeners ends kept ls rise) ∙ length_of_map (λ (l : Registered). l.1) (filter (starts ends kept ls) ls)

-- as many start as new forms are needed
pub started_count : (c : Cover) (ls : List Registered) → length (started_for c ls) ≡ length (new_forms c.kept (needed_forms ls))
started_count c ls = sym (length_of_map (λ (k : Tagged). k.form) (started_for c ls))
    ∙ ap length (forms-started c.next_tag (new_forms c.kept (needed_forms ls)))

-- whether a tag is lacking, by the room that is left
pub lacks_by_room : (c : Cover) (given room : ℕ) (ends : Registered → Bool) → IsSound c → c.next_tag ≡ given + 1 → room + given ≡ c.last_tag
    → nat_lt room (count_by (starts ends c.kept c.listeners) c.listeners) ≡ lacks_tag c (left ends c.listeners)
lacks_by_room c given room ends s next is =
    same_tests (nat_lt room n) (lacks_tag c (left ends c.listeners))
    (λ h. lt_true (c.last_tag + 1) (c.next_tag + length (started_for c (left ends c.listeners)))
    (omega (arith, ltb-true room n h, next, is, count)))
    (λ h. lt_true room n (omega (
      arith,
      ltb-true (c.last_tag + 1) (c.next_tag + length (started_for c (left ends c.listeners))) h,
      next,
      is,
      count,
    )))
  where
    n : ℕ
    n = count_by (starts ends c.kept c.listeners) c.listeners

    count : length (started_for c (left ends c.listeners)) ≡ n
    count = started_count c (left ends c.listeners) ∙ count_started ends c.kept c.listeners s.listeners
        ∙ length-filter (starts ends c.kept c.listeners) c.listeners

-- no more start than there are listeners
pub none_lacks : (c : Cover) (given room : ℕ) (ends : Registered → Bool) → IsSound c → c.next_tag ≡ given + 1 → room + given ≡ c.last_tag
    → length c.listeners ≤ room → lacks_tag c (left ends c.listeners) ≡ false
none_lacks c given room ends s next is few = sym (lacks_by_room c given room ends s next is)
    ∙ lt_false room (count_by (starts ends c.kept c.listeners) c.listeners)
    (omega (arith, few, count_by-le-length (starts ends c.kept c.listeners) c.listeners))
