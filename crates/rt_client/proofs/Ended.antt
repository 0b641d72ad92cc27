-- Which of a seat's listeners are left once some have ended.
use Rattle.std.proofs.Common.{◌≡◌, ℕ, ◌<◌, Bool, true, false, cond, ◌&&◌, ◌||◌, ◌==◌, not, List, [], ◌∷◌, refl, sym, ap, ◌∙◌}
use mathlib.Core.Bool.{true≢false}
use Rattle.std.specs.Cmp.{nat_eq_equiv}
use Rattle.std.specs.List.{filter, fold, list_any}
use Rattle.std.proofs.lemmas.List.Elements.{All-filter}
use Rattle.rt_world.specs.World.{Listener}
use Rattle.rt_world.specs.Sound.{Rises}
use Rattle.rt_client.proofs.Filters.{filter-filter, filter_same}
use Rattle.rt_client.proofs.Numbers.{has_number, or_false_left, or_false_right, same_number, not_above, both_swap, flip}

-- a seat's listeners
abbrev pub of_seat : ℕ → List Listener → List Listener
of_seat seat ls = filter (λ l. l.seat == seat) ls

-- without that of a number
abbrev pub without : ℕ → List Listener → List Listener
without n ls = filter (λ l. not (l.number == n)) ls

-- the order of the two does not count
pub of_seat-without : (seat n : ℕ) (ls : List Listener) → without n (of_seat seat ls) ≡ of_seat seat (without n ls)
of_seat-without seat n ls =
    filter-filter (λ (l : Listener). not (l.number == n)) (λ (l : Listener). l.seat == seat) ls
    ∙ filter_same _ _ ls (λ l. both_swap (l.seat == seat) (not (l.number == n)))
    ∙ sym (filter-filter (λ (l : Listener). l.seat == seat) (λ (l : Listener). not (l.number == n)) ls)

-- where none has the number, none goes
none_goes : (n : ℕ) (ls : List Listener) → has_number n ls ≡ false → without n ls ≡ ls
none_goes n [] h = refl
none_goes n (l ∷ ls) h =
    ap (λ b. cond (not b) (l ∷ without n ls) (without n ls)) (or_false_left (l.number == n) (has_number n ls) h)
    ∙ ap (λ z. l ∷ z) (none_goes n ls (or_false_right (l.number == n) (has_number n ls) h))

-- so none of that number and a seat is there
no_number : (n seat : ℕ) (ls : List Listener) → has_number n ls ≡ false → list_any (λ (l : Listener). l.number == n && l.seat == seat) ls ≡ false
no_number n seat [] h = refl
no_number n seat (l ∷ ls) h =
    ap (λ b. (b && l.seat == seat) || list_any (λ (m : Listener). m.number == n && m.seat == seat) ls) (or_false_left (l.number == n) (has_number n ls) h)
    ∙ no_number n seat ls (or_false_right (l.number == n) (has_number n ls) h)

-- ---- some that are cancelled

-- one that has ended goes, if it is that seat's
abbrev pub drops_one : ℕ → List Listener → Listener → List Listener
drops_one seat ls x = cond (x.seat == seat) (without x.number ls) ls

abbrev pub drops : ℕ → List Listener → List Listener → List Listener
drops seat xs ls = fold (drops_one seat) ls xs

-- one whose number is not among them stays
drops-other : (seat : ℕ) (xs : List Listener) (l : Listener) (ls : List Listener) → has_number l.number xs ≡ false → drops seat xs (l ∷ ls) ≡ l ∷ drops seat xs ls
drops-other seat [] l ls h = refl
drops-other seat (x ∷ xs) l ls h =
    let apart : (x.number == l.number) ≡ false = or_false_left (x.number == l.number) (has_number l.number xs) h in
    let more = or_false_right (x.number == l.number) (has_number l.number xs) h in
    elim (x.seat == seat) as (λ b. drops seat xs (cond b (without x.number (l ∷ ls)) (l ∷ ls)) ≡ l ∷ drops seat xs (cond b (without x.number ls) ls)) [
      | true ↦
          ap (λ b. drops seat xs (cond (not b) (l ∷ without x.number ls) (without x.number ls))) (flip x.number l.number apart)
          ∙ drops-other seat xs l (without x.number ls) more
      | false ↦ drops-other seat xs l ls more
    ]

-- those that are cancelled go, the others stay
pub cancelled_left : (seat : ℕ) (c : Listener → Bool) (ls : List Listener) → Rises ls → drops seat (filter c ls) (of_seat seat ls) ≡ of_seat seat (filter (λ l. not (c l)) ls)
cancelled_left seat c [] r = refl
cancelled_left seat c (l ∷ ls) r =
    let rest = cancelled_left seat c ls r.1 in
    let fs = filter c ls in
    let gs = filter (λ (l : Listener). not (c l)) ls in
    let ys = of_seat seat ls in
    let zs = of_seat seat gs in
    let above : has_number l.number ys ≡ false = not_above l.number ys (All-filter (λ (m : Listener). m.seat == seat) (λ (m : Listener). l.number < m.number) ls r.0) in
    elim (c l) as (λ a. drops seat (cond a (l ∷ fs) fs) (of_seat seat (l ∷ ls)) ≡ of_seat seat (cond (not a) (l ∷ gs) gs)) [
      | true ↦ elim (l.seat == seat) as (λ b. drops seat fs (cond b (without l.number (cond b (l ∷ ys) ys)) (cond b (l ∷ ys) ys)) ≡ zs) [
        | true ↦
            ap (λ b. drops seat fs (cond (not b) (l ∷ without l.number ys) (without l.number ys))) (nat_eq_equiv.refl l.number)
            ∙ ap (drops seat fs) (none_goes l.number ys above) ∙ rest
        | false ↦ rest
      ]
      | false ↦ elim (l.seat == seat) as (λ b. drops seat fs (cond b (l ∷ ys) ys) ≡ cond b (l ∷ zs) zs) [
        | true ↦
            drops-other seat fs l ys (not_above l.number fs (All-filter c (λ (m : Listener). l.number < m.number) ls r.0))
            ∙ ap (λ z. l ∷ z) rest
        | false ↦ rest
      ]
    ]

-- ---- one that another seat ends

-- no listener of the seat goes
pub unlistened_left : (seat other n : ℕ) (ls : List Listener) → (other == seat) ≡ false → Rises ls → list_any (λ (l : Listener). l.number == n && l.seat == other) ls ≡ true
    → of_seat seat (without n ls) ≡ of_seat seat ls
unlistened_left seat other n [] e r h = absurd (true≢false (sym h))
unlistened_left seat other n (l ∷ ls) e r h =
    let gs = without n ls in
    elim (l.number == n) as (λ a. (l.number == n) ≡ a → ((a && l.seat == other) || list_any (λ (m : Listener). m.number == n && m.seat == other) ls) ≡ true
    → of_seat seat (cond (not a) (l ∷ gs) gs) ≡ of_seat seat (l ∷ ls)) [
      | true ↦ λ t.
          let none : has_number n ls ≡ false = ap (λ k. has_number k ls) (sym (same_number l.number n t)) ∙ not_above l.number ls r.0 in
          λ h. elim (l.seat == other) as (λ b. (l.seat == other) ≡ b → (b || list_any (λ (m : Listener). m.number == n && m.seat == other) ls) ≡ true → of_seat seat gs ≡ of_seat seat (l ∷ ls)) [
            | true ↦ λ o g.
                ap (of_seat seat) (none_goes n ls none)
                ∙ sym (ap (λ b. cond b (l ∷ of_seat seat ls) (of_seat seat ls)) (ap (λ k. k == seat) (same_number l.seat other o) ∙ e))
            | false ↦ λ o g. absurd (true≢false (sym g ∙ no_number n other ls none))
          ] refl h
      | false ↦ λ t h.
          let rest = unlistened_left seat other n ls e r.1 h in
          elim (l.seat == seat) as (λ b. cond b (l ∷ of_seat seat gs) (of_seat seat gs) ≡ cond b (l ∷ of_seat seat ls) (of_seat seat ls)) [
            | true ↦ ap (λ z. l ∷ z) rest
            | false ↦ rest
          ]
    ] refl h
