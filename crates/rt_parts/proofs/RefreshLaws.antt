-- Listeners that are refreshed one after another, by their numbers.
use Rattle.std.proofs.Common.{◌≡◌, ℕ, zero, suc, ◌+◌, ◌<◌, ◌≤◌, Bool, true, false, cond, ◌||◌, ◌&&◌, List, [], ◌∷◌, ◌++◌, length, get_or, drop, map, refl, sym, ap, subst, ◌∙◌, arith, append_assoc, Option, Some, None}
use mathlib.Core.Bool.{true≢false}
use Rattle.std.specs.Prelude.{◌==◌}
use Rattle.std.specs.List.{All, AllPairs, cons_option, filter_map, find, list_any, position}
use Rattle.std.proofs.lemmas.List.Elements.{All-cons, All-head, All-tail}
use Rattle.std.proofs.lemmas.List.{drop_more, get_or-drop, length-drop}
use Rattle.rt_tree.specs.Assignments.{Assignment}
use Rattle.rt_query.specs.Queries.{Query}
use Rattle.rt_writes.specs.Writes.{Write}
use Rattle.rt_cache.specs.Brought.{Brought}
use Rattle.rt_view.specs.Views.{View}
use Rattle.rt_cover.specs.laws.Pairs.{AllPairs-map}
use Rattle.rt_world.specs.declared.report.Note.{Note}
use Rattle.rt_world.specs.After.{renewed}
use Rattle.rt_world.specs.Met.{do_meet, told, told_met}
use Rattle.rt_world.specs.Views.{is_known, view_of}
use Rattle.rt_world.specs.World.{Listener}
use Rattle.rt_writes.specs.laws.Places.{filter_none_found}
use Rattle.rt_parts.specs.declared.listeners.HeldListener.{HeldListener}
use Rattle.rt_parts.specs.inside.HeldView.{counted_of, listener_of, listeners_of, pair_of, refreshed, refreshed_at, refreshed_heard, told_at}
use Rattle.rt_parts.specs.declared.places.ListenerPlace.{ListenerPlace}
use Rattle.rt_parts.specs.inside.Pairs.{AreHanded, HasPairs, IsDue}
use Rattle.rt_parts.specs.inside.Placed.{placed}
use Rattle.rt_parts.specs.Listeners.{count_if}
use Rattle.rt_parts.specs.Refreshed.{FollowsNamed, all_told_heard, hears, view_after}
use Rattle.rt_parts.proofs.Numbered as by
use Rattle.rt_parts.proofs.PairLaws.{met_number}

-- a listener with its view
abbrev pub Pair : Type 0
Pair = Listener × Option View

abbrev pub number_of : Pair → ℕ
number_of p = p.0.number

-- ---- numbers that are left

pub drop_is : (numbers : List ℕ) (i n : ℕ) → i < length numbers → n ≡ get_or numbers i n → drop i numbers ≡ n ∷ drop (i + 1) numbers
drop_is numbers i n within at = drop_more numbers i n within ∙ ap (λ m. m ∷ drop (i + 1) numbers) (sym at)

pub later : (numbers : List ℕ) (i n : ℕ) → i < length numbers → n ≡ get_or numbers i n → AllPairs (λ k m. k < m) numbers → All (λ m. n < m) (drop (i + 1) numbers)
later numbers i n within at rise k d lt =
    let there : (i + 1) + k < length numbers = omega (arith, lt, within, length-drop (i + 1) numbers) in
    let low : get_or numbers i d < get_or numbers ((i + 1) + k) d = rise i ((i + 1) + k) d (omega arith) there in
    let here : n ≡ get_or numbers i d = at ∙ any_default numbers i n d within in
    omega (arith, low, here, get_or-drop (i + 1) numbers k d)
  where
    any_default : (xs : List ℕ) (i : ℕ) (a c : ℕ) → i < length xs → get_or xs i a ≡ get_or xs i c
    any_default [] i a c l = absurd (omega arith)
    any_default (x ∷ xs) zero a c l = refl
    any_default (x ∷ xs) (suc i) a c l = any_default xs i a c (omega arith)

-- a listener has one of the numbers where it hears of the entries and one meets it, and only where it hears of them
pub record IsHeard (entries : List Assignment) (range : Option Query) (numbers : List ℕ) (l : HeldListener) : Type 0 where
  pub only : list_any (λ n. l.number == n) numbers ≡ true → hears range l.query ≡ true
  pub all : hears range l.query ≡ true → do_meet entries l.query.path ≡ true → list_any (λ n. l.number == n) numbers ≡ true

module _ (entries : List Assignment) (b : Brought) (writes : List Write) where
  abbrev pub told_of : Pair → Option Note
  told_of p = told_met entries b writes p.0

  -- those that are left to be refreshed, and what is told of them
  abbrev pub left_of : List ℕ → List Pair → List Pair
  left_of left ps = map (by.changed_in number_of (refreshed entries b writes) told_of left) ps

  abbrev pub told_left : List ℕ → List Pair → List Note
  told_left left ps = filter_map (by.told_in number_of (refreshed entries b writes) told_of left) ps

  abbrev pub AreDue : List (ℕ × ℕ) → List ℕ → List Pair → Type 0
  AreDue pairs left ps = All (λ (p : Pair). list_any (λ n. p.0.number == n) left ≡ true → IsDue entries b writes pairs p) ps

  -- a listener that is renewed keeps its number
  pub number_stays : (p : Pair) → number_of (refreshed entries b writes p) ≡ number_of p
  number_stays p = elim (do_meet entries p.0.query.path) as (λ z. (cond z (renewed b writes p.0) p.0).number ≡ p.0.number) [
    | true ↦ kept p.0
    | false ↦ refl
  ]
    where
      kept : (l : Listener) → (renewed b writes l).number ≡ l.number
      kept l = elim (l.is_primed || is_known b writes l.query) as (λ z. (cond z (record l { is_primed = true; view = Some (view_of b writes l.query) }) l).number ≡ l.number) [ true ↦ refl | false ↦ refl ]

  -- one number more is done
  pub left_more : (numbers : List ℕ) (i n : ℕ) (ps new all : List Pair) → i < length numbers → n ≡ get_or numbers i n → AllPairs (λ k m. k < m) numbers
      → new ≡ map (refreshed_at n entries b writes) ps
      → left_of (drop i numbers) ps ≡ all → left_of (drop (i + 1) numbers) new ≡ all
  left_more numbers i n ps new all within at rise made inv =
      ap (left_of (drop (i + 1) numbers)) made
      ∙ sym (by.changed_step number_of (refreshed entries b writes) told_of number_stays n (drop (i + 1) numbers) ps (later numbers i n within at rise))
      ∙ ap (λ ns. left_of ns ps) (sym (drop_is numbers i n within at)) ∙ inv

  -- and told
  pub told_more : (numbers : List ℕ) (i n : ℕ) (ps new : List Pair) (done more all : List Note) → i < length numbers → n ≡ get_or numbers i n → AllPairs (λ k m. k < m) numbers
      → AllPairs (λ p q. number_of p < number_of q) ps
      → new ≡ map (refreshed_at n entries b writes) ps → more ≡ done ++ filter_map (told_at n entries b writes) ps
      → done ++ told_left (drop i numbers) ps ≡ all → more ++ told_left (drop (i + 1) numbers) new ≡ all
  told_more numbers i n ps new done more all within at rise up made told inv =
      ap (λ z. z ++ told_left (drop (i + 1) numbers) new) told
      ∙ append_assoc done (filter_map (told_at n entries b writes) ps) (told_left (drop (i + 1) numbers) new)
      ∙ ap (λ z. done ++ z)
      (ap (λ z. filter_map (told_at n entries b writes) ps ++ told_left (drop (i + 1) numbers) z) made
      ∙ sym (by.told_step number_of (refreshed entries b writes) told_of number_stays n (drop (i + 1) numbers) ps (later numbers i n within at rise) up)
      ∙ ap (λ ns. told_left ns ps) (sym (drop_is numbers i n within at)))
      ∙ inv

  -- those that are due still are as they were
  pub due_more : (pairs : List (ℕ × ℕ)) (numbers : List ℕ) (i n : ℕ) (ps new : List Pair) → i < length numbers → n ≡ get_or numbers i n → AllPairs (λ k m. k < m) numbers
      → new ≡ map (refreshed_at n entries b writes) ps → AreDue pairs (drop i numbers) ps → AreDue pairs (drop (i + 1) numbers) new
  due_more pairs numbers i n ps new within at rise made due =
      subst (AreDue pairs (drop (i + 1) numbers)) (sym made)
      (by.due_left number_of (refreshed entries b writes) told_of number_stays (IsDue entries b writes pairs) n (drop (i + 1) numbers) ps (later numbers i n within at rise)
      (subst (λ ns. AreDue pairs ns ps) (drop_is numbers i n within at) due))

  -- the one of a number that is due
  pub due_at : (pairs : List (ℕ × ℕ)) (numbers : List ℕ) (i n : ℕ) (ps : List Pair) → i < length numbers → n ≡ get_or numbers i n → AreDue pairs (drop i numbers) ps
      → All (λ (p : Pair). (p.0.number == n) ≡ true → IsDue entries b writes pairs p) ps
  due_at pairs numbers i n ps within at due k d lt e =
      subst (λ ns. AreDue pairs ns ps) (drop_is numbers i n within at) due k d lt (ap (λ z. z || list_any (λ m. (get_or ps k d).0.number == m) (drop (i + 1) numbers)) e)

  -- where none is left, nothing is left to do
  pub none_left : (ps : List Pair) → left_of [] ps ≡ ps
  none_left [] = refl
  none_left (p ∷ ps) = ap (λ z. p ∷ z) (none_left ps)

  pub none_told : (ps : List Pair) → told_left [] ps ≡ []
  none_told [] = refl
  none_told (p ∷ ps) = none_told ps

  abbrev pub met : Pair → Bool
  met p = do_meet entries p.0.query.path

  -- what holds of listeners holds of them with their views
  pub pairs_from : (P : Pair → Type 0) (ls : List HeldListener) → All (λ (l : HeldListener). P (pair_of l)) ls → All P (map pair_of ls)
  pairs_from P [] h = λ k d lt. absurd (omega arith)
  pairs_from P (l ∷ ls) h = All-cons P (pair_of l) (map pair_of ls) (h 0 l (omega arith)) (pairs_from P ls (λ k d lt. h (suc k) d (omega arith)))

  -- ---- the listeners that entries are handed to

  module _ (range : Option Query) where
    abbrev pub AreHeard : List ℕ → List HeldListener → Type 0
    AreHeard numbers ls = All (IsHeard entries range numbers) ls

    -- so it is where the numbers are those of the pairs
    pub heard_by : (pairs lent : List (ℕ × ℕ)) (numbers given : List ℕ) (seen ls : List HeldListener) → AreHanded range entries pairs seen → seen ≡ ls → lent ≡ pairs → given ≡ numbers
        → ((p : ℕ → Bool) → list_any p numbers ≡ list_any (λ (o : ℕ × ℕ). p o.0) lent) → AreHeard given ls
    heard_by pairs lent numbers given seen ls handed se le ge same k d lt =
        let l : HeldListener = get_or ls k d in
        let all : AreHanded range entries pairs ls = subst (AreHanded range entries pairs) se handed in
        let known : list_any (λ n. l.number == n) given ≡ list_any (λ (o : ℕ × ℕ). l.number == o.0) pairs =
        ap (list_any (λ n. l.number == n)) ge ∙ same (λ n. l.number == n) ∙ ap (list_any (λ (o : ℕ × ℕ). l.number == o.0)) le in
        record {
          only = λ e. all.only k d lt (sym known ∙ e);
          all = λ h e. known ∙ met_number entries pairs l.number l.query.path (all.all k d lt h) e;
        }

    -- those that are handed entries are due
    pub handed_due : (pairs : List (ℕ × ℕ)) (numbers : List ℕ) (ls : List HeldListener) → AreHanded range entries pairs ls → AreHeard numbers ls → All (FollowsNamed entries b writes) (map pair_of ls)
        → AreDue pairs numbers (map pair_of ls)
    handed_due pairs numbers ls handed heard follow k d lt e = record {
      follow = follow k d lt;
      own = pairs_from (λ (p : Pair). list_any (λ n. p.0.number == n) numbers ≡ true → HasPairs entries pairs p.0.number p.0.query.path) ls (λ j g l t. handed.all j g l ((heard j g l).only t)) k d lt e;
    }

    -- by whether it has one of the numbers, hears of the entries, and is met by one
    by_tests : (has hear meet : Bool) → (has ≡ true → hear ≡ true) → (hear ≡ true → meet ≡ true → has ≡ true)
        → (x y : Listener) (u v : Option View) → ◌≡◌ {A = Pair} (cond has (cond meet x y, cond meet u v) (y, v)) (cond hear (cond meet x y) y, cond hear (cond meet u v) v)
    by_tests true true meet f g x y u v = refl
    by_tests true false meet f g x y u v = absurd (true≢false (sym (f refl)))
    by_tests false true true f g x y u v = absurd (true≢false (sym (g refl refl)))
    by_tests false true false f g x y u v = refl
    by_tests false false meet f g x y u v = refl

    note_by_tests : (has hear meet : Bool) → (has ≡ true → hear ≡ true) → (hear ≡ true → meet ≡ true → has ≡ true)
        → (t : Option Note) → cond has (cond meet t None) None ≡ cond hear (cond meet t None) None
    note_by_tests true true meet f g t = refl
    note_by_tests true false meet f g t = absurd (true≢false (sym (f refl)))
    note_by_tests false true true f g t = absurd (true≢false (sym (g refl refl)))
    note_by_tests false true false f g t = refl
    note_by_tests false false meet f g t = refl

    count_by_tests : (has hear meet : Bool) → (has ≡ true → hear ≡ true) → (hear ≡ true → meet ≡ true → has ≡ true)
        → (x y : Listener) (u v : Option View) (n : ℕ)
        → ◌≡◌ {A = Pair × ℕ} (cond has ((cond meet x y, cond meet u v), count_if meet n (cond meet u v)) ((y, v), n))
        ((cond hear (cond meet x y) y, cond hear (cond meet u v) v), count_if (hear && meet) n (cond hear (cond meet u v) v))
    count_by_tests true true meet f g x y u v n = refl
    count_by_tests true false meet f g x y u v n = absurd (true≢false (sym (f refl)))
    count_by_tests false true true f g x y u v n = absurd (true≢false (sym (g refl refl)))
    count_by_tests false true false f g x y u v n = refl
    count_by_tests false false meet f g x y u v n = refl

    -- so just those that hear of the entries are refreshed
    pub left_heard : (numbers : List ℕ) (ls : List HeldListener) → AreHeard numbers ls → left_of numbers (map pair_of ls) ≡ map (refreshed_heard range entries b writes) (map pair_of ls)
    left_heard numbers [] h = refl
    left_heard numbers (l ∷ ls) h =
        let one : IsHeard entries range numbers l = All-head (IsHeard entries range numbers) l ls h in
        let first = by_tests (list_any (λ n. l.number == n) numbers) (hears range l.query) (do_meet entries l.query.path) one.only one.all
        (renewed b writes (listener_of l)) (listener_of l) (view_after entries b writes l.query l.view) l.view in
        λ i. first i ∷ left_heard numbers ls (All-tail (IsHeard entries range numbers) l ls h) i

    -- told
    pub told_left_heard : (numbers : List ℕ) (ls : List HeldListener) → AreHeard numbers ls → told_left numbers (map pair_of ls) ≡ all_told_heard range entries b writes (listeners_of ls)
    told_left_heard numbers [] h = refl
    told_left_heard numbers (l ∷ ls) h =
        let one : IsHeard entries range numbers l = All-head (IsHeard entries range numbers) l ls h in
        let first = note_by_tests (list_any (λ n. l.number == n) numbers) (hears range l.query) (do_meet entries l.query.path) one.only one.all (told b writes (listener_of l)) in
        λ i. cons_option (first i) (told_left_heard numbers ls (All-tail (IsHeard entries range numbers) l ls h) i)

    -- and counted
    abbrev pub counted_heard : Pair × ℕ → Pair × ℕ
    counted_heard t = (refreshed_heard range entries b writes t.0, count_if (hears range t.0.0.query && do_meet entries t.0.0.query.path) t.1 (refreshed_heard range entries b writes t.0).1)

    abbrev pub counted_left : List ℕ → List (Pair × ℕ) → List (Pair × ℕ)
    counted_left numbers ts = map (λ (t : Pair × ℕ). cond (list_any (λ n. t.0.0.number == n) numbers) (refreshed entries b writes t.0, count_if (met t.0) t.1 (refreshed entries b writes t.0).1) t) ts

    pub counted_left_heard : (numbers : List ℕ) (ls : List HeldListener) → AreHeard numbers ls → counted_left numbers (map counted_of ls) ≡ map counted_heard (map counted_of ls)
    counted_left_heard numbers [] h = refl
    counted_left_heard numbers (l ∷ ls) h =
        let one : IsHeard entries range numbers l = All-head (IsHeard entries range numbers) l ls h in
        let first = count_by_tests (list_any (λ n. l.number == n) numbers) (hears range l.query) (do_meet entries l.query.path) one.only one.all
        (renewed b writes (listener_of l)) (listener_of l) (view_after entries b writes l.query l.view) l.view l.count in
        λ i. first i ∷ counted_left_heard numbers ls (All-tail (IsHeard entries range numbers) l ls h) i

-- numbers of listeners and of pairs rise alike
pub pairs_up : (ls : List HeldListener) → AllPairs (λ (l m : HeldListener). l.number < m.number) ls → AllPairs (λ p q. number_of p < number_of q) (map pair_of ls)
pairs_up ls up = AllPairs-map pair_of (λ p q. number_of p < number_of q) ls up

pub drop_past : {X : Type 0} (n : ℕ) (xs : List X) → length xs ≤ n → drop n xs ≡ []
drop_past zero [] le = refl
drop_past (suc n) [] le = refl
drop_past zero (x ∷ xs) le = absurd (omega (arith, le))
drop_past (suc n) (x ∷ xs) le = drop_past n xs (omega (arith, le))

-- where no listener has the number, no pair has it
pub none_there : (n : ℕ) (ls : List HeldListener) → position (λ (l : HeldListener). l.number == n) ls ≡ None → All (λ (p : Pair). (number_of p == n) ≡ false) (map pair_of ls)
none_there n ls e = of_none ls (filter_none_found (λ (l : HeldListener). l.number == n) ls e).0
  where
    of_none : (xs : List HeldListener) → find (λ (l : HeldListener). l.number == n) xs ≡ None → All (λ (p : Pair). (number_of p == n) ≡ false) (map pair_of xs)
    of_none [] f = λ k d lt. absurd (omega arith)
    of_none (x ∷ xs) f = elim (x.number == n) as (λ b. (x.number == n) ≡ b → cond b (Some x) (find (λ (l : HeldListener). l.number == n) xs) ≡ None → All (λ (p : Pair). (number_of p == n) ≡ false) (map pair_of (x ∷ xs))) [
      | true ↦ λ g h. cc
      | false ↦ λ g h. All-cons (λ (p : Pair). (number_of p == n) ≡ false) (pair_of x) (map pair_of xs) g (of_none xs h)
    ] refl f

-- a refreshed listener stands where it stood
module _ (entries : List Assignment) (b : Brought) (writes : List Write) where
  abbrev stand : Listener → ListenerPlace
  stand l = record { path = l.query.path; number = l.number; seat = l.seat }

  stand_stays : (p : Pair) → stand (refreshed entries b writes p).0 ≡ stand p.0
  stand_stays p = elim (do_meet entries p.0.query.path) as (λ z. stand (cond z (renewed b writes p.0) p.0) ≡ stand p.0) [
    | true ↦ kept p.0
    | false ↦ refl
  ]
    where
      kept : (l : Listener) → stand (renewed b writes l) ≡ stand l
      kept l = elim (l.is_primed || is_known b writes l.query) as (λ z. stand (cond z (record l { is_primed = true; view = Some (view_of b writes l.query) }) l) ≡ stand l) [ true ↦ refl | false ↦ refl ]

  -- so does one that is renewed
  pub placed_with : (h : HeldListener) (l : Listener) → listener_of h ≡ renewed b writes l → placed h ≡ record { path = l.query.path; number = l.number; seat = l.seat }
  placed_with h l e = ap stand e ∙ elim (l.is_primed || is_known b writes l.query) as (λ z. stand (cond z (record l { is_primed = true; view = Some (view_of b writes l.query) }) l) ≡ stand l) [ true ↦ refl | false ↦ refl ]

  pub placed_left : (numbers : List ℕ) (old new : List HeldListener) → map pair_of new ≡ left_of entries b writes numbers (map pair_of old) → map placed new ≡ map placed old
  placed_left numbers old new e = read new ∙ ap (map (λ (p : Pair). stand p.0)) e ∙ stay old
    where
      read : (ls : List HeldListener) → map placed ls ≡ map (λ (p : Pair). stand p.0) (map pair_of ls)
      read [] = refl
      read (l ∷ ls) = ap (λ z. placed l ∷ z) (read ls)

      one : (p : Pair) → stand (cond (list_any (λ n. p.0.number == n) numbers) (refreshed entries b writes p) p).0 ≡ stand p.0
      one p = elim (list_any (λ n. p.0.number == n) numbers) as (λ z. stand (cond z (refreshed entries b writes p) p).0 ≡ stand p.0) [ true ↦ stand_stays p | false ↦ refl ]

      stay : (ls : List HeldListener) → map (λ (p : Pair). stand p.0) (left_of entries b writes numbers (map pair_of ls)) ≡ map placed ls
      stay [] = refl
      stay (l ∷ ls) = λ i. one (pair_of l) i ∷ stay ls i

pub placed_renewed : (b : Brought) (writes : List Write) (h : HeldListener) (l : Listener) → listener_of h ≡ renewed b writes l → placed h ≡ record { path = l.query.path; number = l.number; seat = l.seat }
placed_renewed b writes h l e = placed_with [] b writes h l e
