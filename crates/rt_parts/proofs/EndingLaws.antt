-- Listeners that end with their form, by their numbers.
use Rattle.std.proofs.Common.{◌≡◌, ℕ, ◌+◌, ◌<◌, Bool, true, false, cond, not, ◌||◌, ◌&&◌, List, [], ◌∷◌, ◌++◌, length, get_or, take, drop, map, refl, sym, ap, ◌∙◌, arith, append_assoc, eqb-true, Option, Some, None}
use Rattle.std.specs.Prelude.{◌==◌}
use Rattle.std.specs.List.{All, AllPairs, cons_option, filter, filter_map, find, list_any, position}
use Rattle.std.proofs.lemmas.List.Elements.{All-cons, All-head, All-tail}
use Rattle.std.proofs.lemmas.List.Folds.{list_any_more}
use Rattle.rt_cover.specs.laws.Pairs.{AllPairs-map}
use Rattle.rt_tree.specs.PathTree.{Path, path_eq}
use Rattle.rt_tree.specs.TreeEq.{both_first}
use Rattle.rt_query.specs.Queries.{Query}
use Rattle.rt_query.specs.QueryEq.{query_eq}
use Rattle.rt_query.specs.Supply.{does_supply, form}
use Rattle.rt_world.specs.declared.report.Note.{Note}
use Rattle.rt_world.specs.World.{Listener, Reason}
use Rattle.rt_writes.specs.laws.Places.{filter_none_found}
use Rattle.rt_parts.specs.Listeners.{cancelled_note}
use Rattle.rt_parts.specs.declared.listeners.HeldListener.{HeldListener}
use Rattle.rt_parts.specs.inside.HeldView.{ended_among, ended_at, HaveForm, HaveSupplied, listener_of, listeners_of}
use Rattle.rt_parts.specs.Refreshed.{is_supplied_at}
use Rattle.rt_parts.proofs.IndexLaws.{form_path, only_at_path, own_test}
use Rattle.rt_parts.proofs.Numbered as by
use Rattle.rt_parts.proofs.RefreshLaws.{drop_is, later}
use Rattle.rt_parts.proofs.SameLaws.{any_filter}

-- ---- those that are left

filter_twice : {X : Type 0} (p q : X → Bool) (xs : List X) → filter p (filter q xs) ≡ filter (λ x. q x && p x) xs
filter_twice p q [] = refl
filter_twice p q (x ∷ xs) = elim (q x) as (λ b. filter p (cond b (x ∷ filter q xs) (filter q xs)) ≡ cond (b && p x) (x ∷ filter (λ y. q y && p y) xs) (filter (λ y. q y && p y) xs)) [
  | true ↦ ap (λ ys. cond (p x) (x ∷ ys) ys) (filter_twice p q xs)
  | false ↦ filter_twice p q xs
]

pub filter_alike : {X : Type 0} (p q : X → Bool) (xs : List X) → All (λ x. p x ≡ q x) xs → filter p xs ≡ filter q xs
filter_alike p q [] h = refl
filter_alike p q (x ∷ xs) h =
    let rest : filter p xs ≡ filter q xs = filter_alike p q xs (All-tail (λ y. p y ≡ q y) x xs h) in
    λ i. cond (All-head (λ y. p y ≡ q y) x xs h i) (x ∷ rest i) (rest i)

not_or : (a b : Bool) → (not a && not b) ≡ not (a || b)
not_or true b = refl
not_or false b = refl

-- without the one of a number more
pub left_more : (numbers : List ℕ) (i n : ℕ) (held old new : List HeldListener) → i < length numbers → n ≡ get_or numbers i n
    → old ≡ filter (λ (h : HeldListener). not (list_any (λ m. h.number == m) (take i numbers))) held
    → new ≡ filter (λ (h : HeldListener). not (h.number == n)) old
    → new ≡ filter (λ (h : HeldListener). not (list_any (λ m. h.number == m) (take (i + 1) numbers))) held
left_more numbers i n held old new within at before made =
    made ∙ ap (filter (λ (h : HeldListener). not (h.number == n))) before
    ∙ filter_twice (λ (h : HeldListener). not (h.number == n)) (λ (h : HeldListener). not (list_any (λ m. h.number == m) (take i numbers))) held
    ∙ filter_alike (λ (h : HeldListener). not (list_any (λ m. h.number == m) (take i numbers)) && not (h.number == n)) (λ (h : HeldListener). not (list_any (λ m. h.number == m) (take (i + 1) numbers))) held
    (λ k d lt. more (get_or held k d))
  where
    more : (h : HeldListener) → (not (list_any (λ m. h.number == m) (take i numbers)) && not (h.number == n)) ≡ not (list_any (λ m. h.number == m) (take (i + 1) numbers))
    more h =
        not_or (list_any (λ m. h.number == m) (take i numbers)) (h.number == n)
        ∙ ap (λ m. not (list_any (λ m. h.number == m) (take i numbers) || (h.number == m))) at
        ∙ ap not (sym (list_any_more (λ m. h.number == m) numbers i n within))

filter_every : {X : Type 0} (xs : List X) → xs ≡ filter (λ _. true) xs
filter_every [] = refl
filter_every (x ∷ xs) = ap (λ ys. x ∷ ys) (filter_every xs)

-- without none
pub left_none : (numbers : List ℕ) (held : List HeldListener) → held ≡ filter (λ (h : HeldListener). not (list_any (λ m. h.number == m) (take 0 numbers))) held
left_none numbers held = filter_every held

-- where the numbers are those of a form, those without it are left
pub left_by_form : (f : Query) (numbers : List ℕ) (held : List HeldListener) → HaveForm f numbers held
    → filter (λ (h : HeldListener). not (list_any (λ m. h.number == m) numbers)) held ≡ filter (λ (h : HeldListener). not (query_eq (form h.query) f)) held
left_by_form f numbers held h =
    filter_alike (λ (h : HeldListener). not (list_any (λ m. h.number == m) numbers)) (λ (h : HeldListener). not (query_eq (form h.query) f)) held (λ k d lt. ap not (h k d lt))

-- ---- the numbers of a form

-- of the numbers that pass one is this, if it is one of all and passes
any_kept : (m : ℕ) (t : ℕ → Bool) (ns : List ℕ) → list_any (λ n. m == n) (filter t ns) ≡ (list_any (λ n. m == n) ns && t m)
any_kept m t ns = any_filter (λ n. m == n) t ns ∙ each ns
  where
    absorb : (x a : Bool) → ((x && true) || (a && x)) ≡ x
    absorb true a = refl
    absorb false true = refl
    absorb false false = refl

    gone : (x c : Bool) → ((x && false) || c) ≡ c
    gone true c = refl
    gone false c = refl

    each : (ns : List ℕ) → list_any (λ n. t n && (m == n)) ns ≡ (list_any (λ n. m == n) ns && t m)
    each [] = refl
    each (n ∷ ns) =
        ap (λ b. (t n && (m == n)) || b) (each ns)
        ∙ elim (m == n) as (λ b. (m == n) ≡ b → ((t n && b) || (list_any (λ n. m == n) ns && t m)) ≡ ((b || list_any (λ n. m == n) ns) && t m)) [
          | true ↦ λ e. ap (λ z. (t z && true) || (list_any (λ n. m == n) ns && t m)) (sym (eqb-true m n e)) ∙ absorb (t m) (list_any (λ n. m == n) ns)
          | false ↦ λ e. gone (t n) (list_any (λ n. m == n) ns && t m)
        ] refl

-- of numbers among which those at a path are, the ones that are kept are those of the listeners that pass,
-- where these are of the path
have_those : (test : HeldListener → Bool) (p : Path) (ns : List ℕ) (held : List HeldListener) → AllPairs (λ (l m : HeldListener). l.number < m.number) held
    → All (λ (h : HeldListener). path_eq h.query.path p ≡ true → list_any (λ n. h.number == n) ns ≡ true) held → ((h : HeldListener) → test h ≡ true → path_eq h.query.path p ≡ true)
    → All (λ (h : HeldListener). list_any (λ n. h.number == n) (filter (λ n. list_any (λ (l : HeldListener). l.number == n && test l) held) ns) ≡ test h) held
have_those test p ns held up all at k d lt =
    let h : HeldListener = get_or held k d in
    any_kept h.number (λ n. list_any (λ (l : HeldListener). l.number == n && test l) held) ns
    ∙ ap (λ b. list_any (λ n. h.number == n) ns && b) (own_test held test up k d lt)
    ∙ only_at_path (list_any (λ n. h.number == n) ns) (test h) (λ e. all k d lt (at h e))

-- those of a form
pub have_form : (f : Query) (ns : List ℕ) (held : List HeldListener) → AllPairs (λ (l m : HeldListener). l.number < m.number) held
    → All (λ (h : HeldListener). path_eq h.query.path f.path ≡ true → list_any (λ n. h.number == n) ns ≡ true) held
    → HaveForm f (filter (λ n. list_any (λ (l : HeldListener). l.number == n && query_eq (form l.query) f) held) ns) held
have_form f ns held up all = have_those (λ (h : HeldListener). query_eq (form h.query) f) f.path ns held up all (λ h. form_path h.query f)

-- and those that a range of the path supplies
pub have_supplied : (f : Query) (ns : List ℕ) (held : List HeldListener) → AllPairs (λ (l m : HeldListener). l.number < m.number) held
    → All (λ (h : HeldListener). path_eq h.query.path f.path ≡ true → list_any (λ n. h.number == n) ns ≡ true) held
    → HaveSupplied f (filter (λ n. list_any (λ (l : HeldListener). l.number == n && is_supplied_at f l.query) held) ns) held
have_supplied f ns held up all =
    have_those (λ (h : HeldListener). is_supplied_at f h.query) f.path ns held up all (λ h. both_first (path_eq h.query.path f.path) (does_supply f h.query))

-- ---- what is told of those that end

module _ (why : Reason) where
  abbrev pub note : Listener → Option Note
  note l = Some (cancelled_note why l)

  map_same : (n : ℕ) (ls : List Listener) → map (by.changed_at (λ (l : Listener). l.number) (λ l. l) note n) ls ≡ ls
  map_same n [] = refl
  map_same n (l ∷ ls) = λ i. same i ∷ map_same n ls i
    where
      same : cond (l.number == n) l l ≡ l
      same = elim (l.number == n) as (λ b. cond b l l ≡ l) [ true ↦ refl | false ↦ refl ]

  -- one number more is told
  pub told_more : (numbers : List ℕ) (i n : ℕ) (held : List HeldListener) (done more all : List Note) → i < length numbers → n ≡ get_or numbers i n → AllPairs (λ k m. k < m) numbers
      → AllPairs (λ (l m : HeldListener). l.number < m.number) held
      → more ≡ done ++ filter_map (ended_at n why) (listeners_of held)
      → done ++ filter_map (ended_among (drop i numbers) why) (listeners_of held) ≡ all
      → more ++ filter_map (ended_among (drop (i + 1) numbers) why) (listeners_of held) ≡ all
  told_more numbers i n held done more all within at rise up told inv =
      let ls : List Listener = listeners_of held in
      ap (λ z. z ++ filter_map (ended_among (drop (i + 1) numbers) why) ls) told
      ∙ append_assoc done (filter_map (ended_at n why) ls) (filter_map (ended_among (drop (i + 1) numbers) why) ls)
      ∙ ap (λ z. done ++ z)
      (ap (λ z. filter_map (ended_at n why) ls ++ filter_map (ended_among (drop (i + 1) numbers) why) z) (sym (map_same n ls))
      ∙ sym (by.told_step (λ (l : Listener). l.number) (λ l. l) note (λ l. refl) n (drop (i + 1) numbers) ls (later numbers i n within at rise)
      (AllPairs-map listener_of (λ (a b : Listener). a.number < b.number) held up))
      ∙ ap (λ ns. filter_map (ended_among ns why) ls) (sym (drop_is numbers i n within at)))
      ∙ inv

  -- where no number is left, nothing is left to tell
  pub none_told : (ls : List Listener) → filter_map (ended_among [] why) ls ≡ []
  none_told [] = refl
  none_told (l ∷ ls) = none_told ls

  -- where the numbers are those of a form, its listeners are told
  pub told_form : (f : Query) (numbers : List ℕ) (held : List HeldListener) → HaveForm f numbers held
      → filter_map (ended_among numbers why) (listeners_of held) ≡ map (cancelled_note why) (filter (λ (l : Listener). query_eq (form l.query) f) (listeners_of held))
  told_form f numbers [] h = refl
  told_form f numbers (x ∷ xs) h =
      ap (λ b. cons_option (cond b (note (listener_of x)) None) (filter_map (ended_among numbers why) (listeners_of xs))) (All-head (λ (l : HeldListener). list_any (λ n. l.number == n) numbers ≡ query_eq (form l.query) f) x xs h)
      ∙ ap (λ ns. cons_option (cond (query_eq (form x.query) f) (note (listener_of x)) None) ns) (told_form f numbers xs (All-tail (λ (l : HeldListener). list_any (λ n. l.number == n) numbers ≡ query_eq (form l.query) f) x xs h))
      ∙ elim (query_eq (form x.query) f) as (λ b. cons_option (cond b (note (listener_of x)) None) (map (cancelled_note why) rest) ≡ map (cancelled_note why) (cond b (listener_of x ∷ rest) rest)) [
        | true ↦ refl
        | false ↦ refl
      ]
    where
      rest : List Listener
      rest = filter (λ (l : Listener). query_eq (form l.query) f) (listeners_of xs)

-- where no listener has the number, none is told of it
pub none_of : (n : ℕ) (ls : List HeldListener) → position (λ (l : HeldListener). l.number == n) ls ≡ None → All (λ (l : Listener). (l.number == n) ≡ false) (listeners_of ls)
none_of n ls e = of_none ls (filter_none_found (λ (l : HeldListener). l.number == n) ls e).0
  where
    of_none : (xs : List HeldListener) → find (λ (l : HeldListener). l.number == n) xs ≡ None → All (λ (l : Listener). (l.number == n) ≡ false) (listeners_of xs)
    of_none [] f = λ k d lt. absurd (omega arith)
    of_none (x ∷ xs) f = elim (x.number == n) as (λ b. (x.number == n) ≡ b → cond b (Some x) (find (λ (l : HeldListener). l.number == n) xs) ≡ None → All (λ (l : Listener). (l.number == n) ≡ false) (listeners_of (x ∷ xs))) [
      | true ↦ λ g h. cc
      | false ↦ λ g h. All-cons (λ (l : Listener). (l.number == n) ≡ false) (listener_of x) (listeners_of xs) g (of_none xs h)
    ] refl f
