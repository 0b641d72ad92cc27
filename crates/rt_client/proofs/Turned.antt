-- What is known of listeners, each by its number, as the batches of a step turn it.
use Rattle.std.proofs.Common.{◌≡◌, ℕ, zero, suc, ◌<◌, true, false, cond, ◌==◌, List, [], ◌∷◌, map, length, refl, sym, ap, subst, ◌∙◌, arith, slice_index_or}
use Rattle.std.specs.Cmp.{nat_eq_equiv}
use Rattle.std.specs.List.{filter, fold, All}
use Rattle.std.proofs.lemmas.List.Elements.{All-head, All-tail}
use Rattle.rt_view.specs.declared.change.Change.{Change}
use Rattle.rt_world.specs.World.{Listener}
use Rattle.rt_world.specs.Answers.{batch_from}
use Rattle.rt_world.specs.Sound.{Rises}
use Rattle.rt_client.proofs.Filters.{map_again, map_same}
use Rattle.rt_client.proofs.Numbers.{has_number, or_false_left, or_false_right, other_number, not_above, flip}

-- a change of listeners that keeps each one's number and seat
abbrev pub KeepsOne : (Listener → Listener) → Type 0
KeepsOne f = (l : Listener) → ((f l).number ≡ l.number) × ((f l).seat ≡ l.seat)

-- the changes of a listener's view
abbrev pub due : (Listener → Listener) → Listener → List Change
due f l = batch_from l.view (f l)

at_place : (xs : List Listener) (k : ℕ) (d : Listener) → k < length xs → slice_index_or xs k (slice_index_or xs k d) ≡ slice_index_or xs k d
at_place [] k d lt = absurd (omega arith)
at_place (x ∷ xs) zero d lt = refl
at_place (x ∷ xs) (suc k) d lt = at_place xs k d (omega arith)

-- by what changes make of what is known of one
module _ {X : Type 0} (g : List Change → X → X) where
  -- that of the number after the changes
  abbrev pub told_one : ℕ → List Change → ℕ × X → ℕ × X
  told_one n cs e = cond (e.0 == n) (e.0, g cs e.1) e

  -- one listener's batch, over those that are known, if it is that seat's
  abbrev pub plays_one : ℕ → (Listener → Listener) → List (ℕ × X) → Listener → List (ℕ × X)
  plays_one seat f known l = cond ((f l).seat == seat) (map (told_one (f l).number (due f l)) known) known

  abbrev pub plays : ℕ → (Listener → Listener) → List Listener → List (ℕ × X) → List (ℕ × X)
  plays seat f ls known = fold (plays_one seat f) known ls

  -- the same of one that is known
  abbrev turns_one : ℕ → (Listener → Listener) → ℕ × X → Listener → ℕ × X
  turns_one seat f e l = cond ((f l).seat == seat) (told_one (f l).number (due f l) e) e

  abbrev turns_into : ℕ → (Listener → Listener) → List Listener → ℕ × X → ℕ × X
  turns_into seat f ls e = fold (turns_one seat f) e ls

  -- each is played alone
  plays_each : (seat : ℕ) (f : Listener → Listener) (ls : List Listener) (known : List (ℕ × X)) → plays seat f ls known ≡ map (turns_into seat f ls) known
  plays_each seat f [] known = map_same known
  plays_each seat f (l ∷ ls) known =
      let h = f l in
      plays_each seat f ls (plays_one seat f known l)
      ∙ elim (h.seat == seat) as (λ b. map (turns_into seat f ls) (cond b (map (told_one h.number (due f l)) known) known)
      ≡ map (λ e. turns_into seat f ls (cond b (told_one h.number (due f l) e) e)) known) [
        | true ↦ map_again (turns_into seat f ls) (told_one h.number (due f l)) known
        | false ↦ refl
      ]

  -- one whose number is not a listener's stays
  told_other : (n : ℕ) (cs : List Change) (e : ℕ × X) → (e.0 == n) ≡ false → told_one n cs e ≡ e
  told_other n cs e t = ap (λ b. cond b (e.0, g cs e.1) e) t

  turns_other_one : (seat : ℕ) (f : Listener → Listener) (e : ℕ × X) (l : Listener) → ((f l).number == e.0) ≡ false → turns_one seat f e l ≡ e
  turns_other_one seat f e l t = elim ((f l).seat == seat) as (λ b. cond b (told_one (f l).number (due f l) e) e ≡ e) [
    | true ↦ told_other (f l).number (due f l) e (flip (f l).number e.0 t)
    | false ↦ refl
  ]

  turns_other : (seat : ℕ) (f : Listener → Listener) (ls : List Listener) (e : ℕ × X) → KeepsOne f → has_number e.0 ls ≡ false → turns_into seat f ls e ≡ e
  turns_other seat f [] e one h = refl
  turns_other seat f (l ∷ ls) e one h =
      ap (λ x. turns_into seat f ls x) (turns_other_one seat f e l (ap (λ n. n == e.0) (one l).0 ∙ or_false_left (l.number == e.0) (has_number e.0 ls) h))
      ∙ turns_other seat f ls e one (or_false_right (l.number == e.0) (has_number e.0 ls) h)

  -- a listener of the seat turns by its batch
  turns_own : (seat : ℕ) (f : Listener → Listener) (ls : List Listener) (k : ℕ) (l : Listener) (x : X) → KeepsOne f → Rises ls → k < length ls → slice_index_or ls k l ≡ l → (l.seat == seat) ≡ true
      → turns_into seat f ls (l.number, x) ≡ (l.number, g (due f l) x)
  turns_own seat f [] k l x one r lt e t = absurd (omega arith)
  turns_own seat f (m ∷ ls) zero l x one r lt e t =
      subst (λ (y : Listener). (y.seat == seat) ≡ true → turns_into seat f (m ∷ ls) (y.number, x) ≡ (y.number, g (due f y) x)) e
      (λ own.
      ap (λ b. turns_into seat f ls (cond b (told_one (f m).number (due f m) (m.number, x)) (m.number, x))) (ap (λ n. n == seat) (one m).1 ∙ own)
      ∙ ap (λ n. turns_into seat f ls (told_one n (due f m) (m.number, x))) (one m).0
      ∙ ap (λ b. turns_into seat f ls (cond b (m.number, g (due f m) x) (m.number, x))) (nat_eq_equiv.refl m.number)
      ∙ turns_other seat f ls (m.number, g (due f m) x) one (not_above m.number ls r.0))
      t
  turns_own seat f (m ∷ ls) (suc k) l x one r lt e t =
      let below : m.number < l.number = subst (λ (y : Listener). m.number < y.number) e (r.0 k l (omega arith)) in
      ap (λ y. turns_into seat f ls y) (turns_other_one seat f (l.number, x) m (ap (λ n. n == l.number) (one m).0 ∙ other_number m.number l.number (λ same. omega (arith, same, below))))
      ∙ turns_own seat f ls k l x one r.1 (omega arith) e t

  -- by what is known of each listener
  module _ (v : Listener → X) where
    abbrev known_by : Listener → ℕ × X
    known_by l = (l.number, v l)

    rows_turned : (seat : ℕ) (f : Listener → Listener) (all xs : List Listener) → KeepsOne f
        → All (λ l. (l.seat == seat) ≡ true → turns_into seat f all (known_by l) ≡ known_by (f l)) xs
        → map (turns_into seat f all) (map known_by (filter (λ l. l.seat == seat) xs)) ≡ map known_by (filter (λ l. l.seat == seat) (map f xs))
    rows_turned seat f all [] one h = refl
    rows_turned seat f all (x ∷ xs) one h =
        let rest = rows_turned seat f all xs one (All-tail (λ l. (l.seat == seat) ≡ true → turns_into seat f all (known_by l) ≡ known_by (f l)) x xs h) in
        let head = All-head (λ l. (l.seat == seat) ≡ true → turns_into seat f all (known_by l) ≡ known_by (f l)) x xs h in
        let ys = filter (λ (l : Listener). l.seat == seat) xs in
        let zs = filter (λ (l : Listener). l.seat == seat) (map f xs) in
        elim (x.seat == seat) as (λ t. (x.seat == seat) ≡ t → map (turns_into seat f all) (map known_by (cond t (x ∷ ys) ys)) ≡ map known_by (cond t (f x ∷ zs) zs)) [
          | true ↦ λ t i. head t i ∷ rest i
          | false ↦ λ t. rest
        ] refl
        ∙ ap (λ t. map known_by (cond t (f x ∷ zs) zs)) (ap (λ n. n == seat) (sym (one x).1))

    -- the batches of a step turn what was known before into what is known after
    pub batches_turn : (seat : ℕ) (f : Listener → Listener) (ls : List Listener) → KeepsOne f → Rises ls
        → All (λ l. g (due f l) (v l) ≡ v (f l)) ls
        → plays seat f ls (map known_by (filter (λ l. l.seat == seat) ls)) ≡ map known_by (filter (λ l. l.seat == seat) (map f ls))
    batches_turn seat f ls one r turned =
        plays_each seat f ls (map known_by (filter (λ (l : Listener). l.seat == seat) ls))
        ∙ rows_turned seat f ls ls one each
      where
        each : All (λ l. (l.seat == seat) ≡ true → turns_into seat f ls (known_by l) ≡ known_by (f l)) ls
        each k d lt t =
            let l = slice_index_or ls k d in
            turns_own seat f ls k l (v l) one r lt (at_place ls k d lt) t
            ∙ (λ i. (sym (one l).0 i, turned k d lt i))
