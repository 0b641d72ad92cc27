-- How many children were taken anew for listeners that are changed one after another, by their numbers.
use Rattle.std.proofs.Common.{◌≡◌, ℕ, ◌+◌, ◌<◌, Bool, true, false, cond, List, [], ◌∷◌, ◌++◌, length, get_or, drop, map, refl, sym, ap, ◌∙◌, arith, Option, Some, None}
use mathlib.Core.Bool.{true≢false}
use Rattle.std.specs.Prelude.{◌==◌, is_some}
use Rattle.std.specs.List.{All, AllPairs, cons_option, filter, filter_map, list_any, zip}
use Rattle.std.proofs.lemmas.List.Elements.{All-cons, All-head, All-tail}
use Rattle.rt_writes.specs.Writes.{Write}
use Rattle.rt_cache.specs.Brought.{Brought}
use Rattle.rt_view.specs.Views.{View}
use Rattle.rt_world.specs.World.{Listener}
use Rattle.rt_parts.specs.declared.listeners.HeldListener.{HeldListener}
use Rattle.rt_parts.specs.Listeners.{count_if, count_with, counts_left, own_count}
use Rattle.rt_parts.specs.inside.HeldView.{all_of, counted_of, counts_of, listener_of, listeners_of, pair_of, views_of}
use Rattle.rt_parts.specs.Renewed.{count_of}
use Rattle.rt_parts.proofs.Numbered as by
use Rattle.rt_parts.proofs.RefreshLaws.{drop_is, later, number_of, Pair}

-- a listener with its view and its count
abbrev pub Counted : Type 0
Counted = Pair × ℕ

abbrev pub counted_number : Counted → ℕ
counted_number t = t.0.0.number

-- nothing is told here
abbrev pub untold : Counted → Option ℕ
untold t = None

-- where there is no view, nothing was taken
pub nothing_taken : (count : ℕ) (o : Option View) → is_some o ≡ false → count ≡ count_with count o
nothing_taken count None e = refl
nothing_taken count (Some v) e = absurd (true≢false e)

-- ---- a change of listeners and views, of those that are due

module _ (f : Pair → Pair) (due : Pair → Bool) where
  -- the count goes on with it
  abbrev pub counted_on : Counted → Counted
  counted_on t = (f t.0, count_if (due t.0) t.1 (f t.0).1)

  -- those that are left to be changed
  abbrev pub counts_in : List ℕ → List Counted → List Counted
  counts_in left ts = map (by.changed_in counted_number counted_on untold left) ts

  -- where none is left, nothing is left to do
  pub none_in : (ts : List Counted) → counts_in [] ts ≡ ts
  none_in [] = refl
  none_in (t ∷ ts) = ap (λ z. t ∷ z) (none_in ts)

  -- one number more is done
  pub counts_step : ((p : Pair) → number_of (f p) ≡ number_of p) → (numbers : List ℕ) (i n : ℕ) (ts new all : List Counted) → i < length numbers → n ≡ get_or numbers i n → AllPairs (λ k m. k < m) numbers
      → new ≡ map (by.changed_at counted_number counted_on untold n) ts
      → counts_in (drop i numbers) ts ≡ all → counts_in (drop (i + 1) numbers) new ≡ all
  counts_step stays numbers i n ts new all within at rise made inv =
      ap (counts_in (drop (i + 1) numbers)) made
      ∙ sym (by.changed_step counted_number counted_on untold (λ (t : Counted). stays t.0) n (drop (i + 1) numbers) ts (later numbers i n within at rise))
      ∙ ap (λ ns. counts_in ns ts) (sym (drop_is numbers i n within at)) ∙ inv

  all_counted : (P : Pair → Type 0) (ls : List HeldListener) → All P (map pair_of ls) → All (λ (t : Counted). P t.0) (map counted_of ls)
  all_counted P [] h = λ k d lt. absurd (omega arith)
  all_counted P (l ∷ ls) h = All-cons (λ (t : Counted). P t.0) (counted_of l) (map counted_of ls) (All-head P (pair_of l) (map pair_of ls) h) (all_counted P ls (All-tail P (pair_of l) (map pair_of ls) h))

  -- where the numbers of all that are due are given, all are changed
  pub counts_in_all : ((p : Pair) → due p ≡ false → f p ≡ p) → (numbers : List ℕ) (ls : List HeldListener) → All (λ (p : Pair). due p ≡ true → list_any (λ n. p.0.number == n) numbers ≡ true) (map pair_of ls)
      → counts_in numbers (map counted_of ls) ≡ map counted_on (map counted_of ls)
  counts_in_all others numbers ls h =
      by.changed_all counted_number counted_on untold (λ (t : Counted). due t.0) numbers (map counted_of ls) others_on
      (all_counted (λ (p : Pair). due p ≡ true → list_any (λ n. p.0.number == n) numbers ≡ true) ls h)
    where
      others_on : (t : Counted) → due t.0 ≡ false → counted_on t ≡ t
      others_on t e = λ i. (others t.0 e i, count_if (e i) t.1 (f t.0).1)

  -- the counts of all
  pub all_counts : (old new : List HeldListener) → map counted_of new ≡ map counted_on (map counted_of old)
      → counts_of new ≡ map (λ (t : Counted). count_if (due t.0) t.1 (f t.0).1) (zip (zip (listeners_of old) (views_of old)) (counts_of old))
  all_counts old new e = read new ∙ ap (map (λ (t : Counted). t.1)) e ∙ each old
    where
      read : (ls : List HeldListener) → counts_of ls ≡ map (λ (t : Counted). t.1) (map counted_of ls)
      read [] = refl
      read (l ∷ ls) = ap (λ z. l.count ∷ z) (read ls)

      each : (ls : List HeldListener) → map (λ (t : Counted). t.1) (map counted_on (map counted_of ls)) ≡ map (λ (t : Counted). count_if (due t.0) t.1 (f t.0).1) (zip (zip (listeners_of ls) (views_of ls)) (counts_of ls))
      each [] = refl
      each (l ∷ ls) = ap (λ z. count_if (due (pair_of l)) l.count (f (pair_of l)).1 ∷ z) (each ls)

-- one that is changed, with its count
pub changed_count : (f : Pair → Pair) (due : Bool) (old new : HeldListener) → pair_of new ≡ f (pair_of old) → new.count ≡ count_if due old.count new.view
    → counted_of new ≡ (f (pair_of old), count_if due old.count (f (pair_of old)).1)
changed_count f due old new e c = λ i. (e i, (c ∙ ap (λ (p : Pair). count_if due old.count p.1) e) i)

-- where no pair has the number, none has it with its count
pub none_counted : (n : ℕ) (ls : List HeldListener) → All (λ (p : Pair). (number_of p == n) ≡ false) (map pair_of ls) → All (λ (t : Counted). (counted_number t == n) ≡ false) (map counted_of ls)
none_counted n [] h = λ k d lt. absurd (omega arith)
none_counted n (l ∷ ls) h =
    All-cons (λ (t : Counted). (counted_number t == n) ≡ false) (counted_of l) (map counted_of ls) (All-head (λ (p : Pair). (number_of p == n) ≡ false) (pair_of l) (map pair_of ls) h)
    (none_counted n ls (All-tail (λ (p : Pair). (number_of p == n) ≡ false) (pair_of l) (map pair_of ls) h))

-- ---- listeners that end

pub counts_filter : (test : Listener → Bool) (held : List HeldListener) → counts_of (filter (λ h. test (listener_of h)) held) ≡ counts_left test (all_of held)
counts_filter test [] = refl
counts_filter test (h ∷ hs) =
    elim (test (listener_of h)) as (λ b. counts_of (cond b (h ∷ filter (λ h. test (listener_of h)) hs) (filter (λ h. test (listener_of h)) hs)) ≡ cons_option (cond b (Some h.count) None) (filter_map (own_count test) (zip (listeners_of hs) (counts_of hs)))) [
      | true ↦ ap (λ cs. h.count ∷ cs) (counts_filter test hs)
      | false ↦ counts_filter test hs
    ]

-- ---- one more

pub counts_more : (held : List HeldListener) (l : HeldListener) → counts_of (held ++ l ∷ []) ≡ counts_of held ++ l.count ∷ []
counts_more [] l = refl
counts_more (h ∷ hs) l = ap (λ cs. h.count ∷ cs) (counts_more hs l)

-- ---- for no query

pub none_counts : (b : Brought) (writes : List Write) (ls : List HeldListener) → counts_of ls ≡ map (count_of [] b writes) (zip (zip (listeners_of ls) (views_of ls)) (counts_of ls))
none_counts b writes [] = refl
none_counts b writes (l ∷ ls) = ap (λ z. l.count ∷ z) (none_counts b writes ls)
