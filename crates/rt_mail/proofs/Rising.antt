-- Numbers that rise, and what is found among them.
use Rattle.std.proofs.Common.{◌≡◌, ℕ, ◌<◌, ◌≤◌, Bool, true, false, cond, ◌||◌, not, nat_le, ◌==◌, List, [], ◌∷◌, map, refl, sym, ap, subst, ◌∙◌, arith, Option, Some, None}
use mathlib.Core.Bool.{true≢false}
use lib.Dec.{T, eqb→eq}
use Rattle.std.specs.Cmp.{nat_eq_equiv}
use Rattle.std.specs.List.{filter, find, fold, list_any}
use Rattle.std.specs.Option.{option_map, option_map_or}
use Rattle.std.proofs.lemmas.Bool.Decides.{nat_tests}
use Rattle.rt_view.specs.declared.change.Change.{Change}
use Rattle.rt_view.specs.Changes.{replay}
use Rattle.rt_mail.specs.declared.item.Item.{Item}
use Rattle.rt_mail.specs.declared.item.Item.TheVariants as item
use Rattle.rt_mail.specs.declared.item.Receipt.TheVariants.{Listened, Unlistened, Wrote, Asked}
use Rattle.rt_mail.specs.Mailbox.{Children, Known, nothing_known, taken, known_of, children_of, played, with_listener, without_listener, with_request, without_request}
use Rattle.rt_mail.specs.laws.Replays.{heard_by, left_open, AreAbove, Rise, ChildrenAreReplayed, RequestsAreLeftOpen, NumbersRise}
use Rattle.rt_mail.proofs.Places.{numbers, numbers-without, numbers-played}

-- ---- numbers

pub same_number : (m n : ℕ) → (m == n) ≡ true → m ≡ n
same_number m n e = eqb→eq m n (subst (λ b. T b) (sym e) tt)

apart : (m n : ℕ) → (m == n) ≡ false → m ≡ n → ⊥
apart m n e same = true≢false (sym (nat_eq_equiv.refl n) ∙ ap (λ x. x == n) (sym same) ∙ e)

pub other_number : (m n : ℕ) → (m ≡ n → ⊥) → (m == n) ≡ false
other_number m n h = elim (m == n) as (λ b. (m == n) ≡ b → b ≡ false) [
  | true ↦ λ e. absurd (h (same_number m n e))
  | false ↦ λ e. refl
] refl

pub at_most : (m n : ℕ) → nat_le m n ≡ true → m ≤ n
at_most m n e = grind (arith, nat_tests)

pub beyond : (m n : ℕ) → nat_le m n ≡ false → n < m
beyond m n e = grind (arith, nat_tests)

-- at most, and another one
pub below_other : (m n : ℕ) → nat_le m n ≡ true → (n == m) ≡ false → m < n
below_other m n e o = let h = apart n m o in let l = at_most m n e in grind (arith, h, l)

-- ---- rising

pub above_lower : (m n : ℕ) (ns : List ℕ) → m < n → AreAbove n ns → AreAbove m ns
above_lower m n [] lt h = tt
above_lower m n (k ∷ ns) lt h = (omega (arith, lt, h.0), above_lower m n ns lt h.1)

above_filter : (p : ℕ → Bool) (m : ℕ) (ns : List ℕ) → AreAbove m ns → AreAbove m (filter p ns)
above_filter p m [] h = tt
above_filter p m (k ∷ ns) h =
    let rest = above_filter p m ns h.1 in
    elim (p k) as (λ b. AreAbove m (cond b (k ∷ filter p ns) (filter p ns))) [ true ↦ (h.0, rest) | false ↦ rest ]

pub rise_filter : (p : ℕ → Bool) (ns : List ℕ) → Rise ns → Rise (filter p ns)
rise_filter p [] h = tt
rise_filter p (k ∷ ns) h =
    let rest = rise_filter p ns h.1 in
    let above = above_filter p k ns h.0 in
    elim (p k) as (λ b. Rise (cond b (k ∷ filter p ns) (filter p ns))) [ true ↦ (above, rest) | false ↦ rest ]

above_with : (m n : ℕ) (ns : List ℕ) → m < n → AreAbove m ns → AreAbove m (with_request n ns)
above_with m n [] lt h = (lt, tt)
above_with m n (k ∷ ns) lt h =
    let rest = above_with m n ns lt h.1 in
    elim (nat_le n k) as (λ b. AreAbove m (cond b (cond (k == n) (k ∷ ns) (n ∷ k ∷ ns)) (k ∷ with_request n ns))) [
      | true ↦ elim (k == n) as (λ b. AreAbove m (cond b (k ∷ ns) (n ∷ k ∷ ns))) [ true ↦ h | false ↦ (lt, h) ]
      | false ↦ (h.0, rest)
    ]

pub rise_with : (n : ℕ) (ns : List ℕ) → Rise ns → Rise (with_request n ns)
rise_with n [] h = (tt, tt)
rise_with n (k ∷ ns) h =
    let rest = rise_with n ns h.1 in
    elim (nat_le n k) as (λ b. nat_le n k ≡ b → Rise (cond b (cond (k == n) (k ∷ ns) (n ∷ k ∷ ns)) (k ∷ with_request n ns))) [
      | true ↦ λ e. elim (k == n) as (λ b. (k == n) ≡ b → Rise (cond b (k ∷ ns) (n ∷ k ∷ ns))) [
        | true ↦ λ o. h
        | false ↦ λ o. let lt = below_other n k e o in ((lt, above_lower n k ns lt h.0), h)
      ] refl
      | false ↦ λ e. (above_with k n ns (beyond n k e) h.0, rest)
    ] refl

pub numbers-with : (n : ℕ) (ls : List (ℕ × Children)) → numbers (with_listener n ls) ≡ with_request n (numbers ls)
numbers-with n [] = refl
numbers-with n (l ∷ ls) =
    let rest = numbers-with n ls in
    elim (nat_le n l.0) as (λ b. numbers (cond b (cond (l.0 == n) (l ∷ ls) ((n, []) ∷ l ∷ ls)) (l ∷ with_listener n ls))
    ≡ cond b (cond (l.0 == n) (l.0 ∷ numbers ls) (n ∷ l.0 ∷ numbers ls)) (l.0 ∷ with_request n (numbers ls))) [
      | true ↦ elim (l.0 == n) as (λ b. numbers (cond b (l ∷ ls) ((n, []) ∷ l ∷ ls)) ≡ cond b (l.0 ∷ numbers ls) (n ∷ l.0 ∷ numbers ls)) [ true ↦ refl | false ↦ refl ]
      | false ↦ ap (λ z. l.0 ∷ z) rest
    ]

-- both rise
abbrev Known-rises : Known → Type 0
Known-rises m = Rise (numbers m.listeners) × Rise m.requests

pub rise_without : (n : ℕ) (ls : List (ℕ × Children)) → Rise (numbers ls) → Rise (numbers (without_listener n ls))
rise_without n ls h = subst Rise (sym (numbers-without n ls)) (rise_filter (λ r. not (r == n)) (numbers ls) h)

taken_rises : (m : Known) (i : Item) → Known-rises m → Known-rises (taken m i)
taken_rises m (item.Receipt (Listened n query)) h = (subst Rise (sym (numbers-with n m.listeners)) (rise_with n (numbers m.listeners) h.0), h.1)
taken_rises m (item.Receipt (Unlistened n)) h = (rise_without n m.listeners h.0, h.1)
taken_rises m (item.Receipt (Wrote id what)) h = (h.0, rise_with id m.requests h.1)
taken_rises m (item.Receipt (Asked id what)) h = (h.0, rise_with id m.requests h.1)
taken_rises m (item.Batch b) h = (subst Rise (sym (numbers-played b.listener b.changes m.listeners)) h.0, h.1)
taken_rises m (item.Settled id why) h = (h.0, rise_filter (λ r. not (r == id)) m.requests h.1)
taken_rises m (item.Cancelled n why) h = (rise_without n m.listeners h.0, h.1)

known_rises : (items : List Item) (m : Known) → Known-rises m → Known-rises (known_of m items)
known_rises [] m h = h
known_rises (i ∷ items) m h = known_rises items (taken m i) (taken_rises m i h)

pub numbers_rise : NumbersRise
numbers_rise items = known_rises items nothing_known (tt, tt)

-- ---- requests

has : ℕ → List ℕ → Bool
has n rs = list_any (λ r. r == n) rs

has-with : (n k : ℕ) (rs : List ℕ) → has n (with_request k rs) ≡ cond (k == n) true (has n rs)
unfolding has
has-with n k [] = elim (k == n) as (λ b. (b || false) ≡ cond b true false) [ true ↦ refl | false ↦ refl ]
has-with n k (r ∷ rs) =
    let rest = has-with n k rs in
    elim (nat_le k r) as (λ b. has n (cond b (cond (r == k) (r ∷ rs) (k ∷ r ∷ rs)) (r ∷ with_request k rs)) ≡ cond (k == n) true (has n (r ∷ rs))) [
      | true ↦ elim (r == k) as (λ b. (r == k) ≡ b → has n (cond b (r ∷ rs) (k ∷ r ∷ rs)) ≡ cond (k == n) true (has n (r ∷ rs))) [
        | true ↦ λ e.
            let same = same_number r k e in
            ap (λ x. (x == n) || has n rs) same
            ∙ elim (k == n) as (λ b. (b || has n rs) ≡ cond b true (b || has n rs)) [ true ↦ refl | false ↦ refl ]
            ∙ ap (λ x. cond (k == n) true ((x == n) || has n rs)) (sym same)
        | false ↦ λ e. elim (k == n) as (λ b. (b || has n (r ∷ rs)) ≡ cond b true (has n (r ∷ rs))) [ true ↦ refl | false ↦ refl ]
      ] refl
      | false ↦
          ap (λ z. (r == n) || z) rest
          ∙ elim (k == n) as (λ b. ((r == n) || cond b true (has n rs)) ≡ cond b true ((r == n) || has n rs)) [
            | true ↦ elim (r == n) as (λ b. (b || true) ≡ true) [ true ↦ refl | false ↦ refl ]
            | false ↦ refl
          ]
    ]

has-without : (n k : ℕ) (rs : List ℕ) → has n (without_request k rs) ≡ cond (k == n) false (has n rs)
unfolding has
has-without n k [] = elim (k == n) as (λ b. false ≡ cond b false false) [ true ↦ refl | false ↦ refl ]
has-without n k (r ∷ rs) =
    let rest = has-without n k rs in
    elim (r == k) as (λ b. (r == k) ≡ b → has n (cond (not b) (r ∷ without_request k rs) (without_request k rs)) ≡ cond (k == n) false (has n (r ∷ rs))) [
      | true ↦ λ e.
          rest
          ∙ elim (k == n) as (λ b. (r == n) ≡ b → cond b false (has n rs) ≡ cond b false (has n (r ∷ rs))) [
            | true ↦ λ t. refl
            | false ↦ λ t. ap (λ b. b || has n rs) (sym t)
          ] (ap (λ x. x == n) (same_number r k e))
      | false ↦ λ e.
          ap (λ z. (r == n) || z) rest
          ∙ elim (k == n) as (λ b. (k == n) ≡ b → ((r == n) || cond b false (has n rs)) ≡ cond b false ((r == n) || has n rs)) [
            | true ↦ λ t.
                let other : (r == n) ≡ false = other_number r n (λ same. apart r k e (same ∙ sym (same_number k n t))) in
                ap (λ b. b || false) other
            | false ↦ λ t. refl
          ] refl
    ] refl

left_one : (n : ℕ) (m : Known) (i : Item) → has n (taken m i).requests ≡ left_open n (has n m.requests) i
left_one n m (item.Receipt (Listened k query)) = refl
left_one n m (item.Receipt (Unlistened k)) = refl
left_one n m (item.Receipt (Wrote id what)) = has-with n id m.requests
left_one n m (item.Receipt (Asked id what)) = has-with n id m.requests
left_one n m (item.Batch b) = refl
left_one n m (item.Settled id why) = has-without n id m.requests
left_one n m (item.Cancelled k why) = refl

left_all : (n : ℕ) (items : List Item) (m : Known) → has n (known_of m items).requests ≡ fold (left_open n) (has n m.requests) items
left_all n [] m = refl
left_all n (i ∷ items) m = left_all n items (taken m i) ∙ ap (λ b. fold (left_open n) b items) (left_one n m i)

pub requests_are_left_open : RequestsAreLeftOpen
unfolding has
requests_are_left_open items n = left_all n items nothing_known

-- ---- listeners

-- the children of the listener with that number
abbrev found : ℕ → List (ℕ × Children) → Option Children
found n ls = option_map (λ l. l.1) (find (λ l. l.0 == n) ls)

-- the first is it, or it is among the others
found-cons : (n : ℕ) (l : ℕ × Children) (ls : List (ℕ × Children)) → found n (l ∷ ls) ≡ cond (l.0 == n) (Some l.1) (found n ls)
found-cons n l ls = elim (l.0 == n) as (λ b. option_map (λ x. x.1) (cond b (Some l) (find (λ x. x.0 == n) ls)) ≡ cond b (Some l.1) (found n ls)) [ true ↦ refl | false ↦ refl ]

found-above : (n : ℕ) (ls : List (ℕ × Children)) → AreAbove n (numbers ls) → found n ls ≡ None
found-above n [] h = refl
found-above n (l ∷ ls) h =
    let lt = h.0 in
    found-cons n l ls ∙ ap (λ b. cond b (Some l.1) (found n ls)) (other_number l.0 n (λ e. omega (arith, e, lt))) ∙ found-above n ls h.1

none_is : (b : Bool) (o : Option Children) → o ≡ cond b o o
none_is true o = refl
none_is false o = refl

found-without : (n k : ℕ) (ls : List (ℕ × Children)) → found n (without_listener k ls) ≡ cond (k == n) None (found n ls)
found-without n k [] = none_is (k == n) None
found-without n k (l ∷ ls) =
    let rest = found-without n k ls in
    elim (l.0 == k) as (λ b. (l.0 == k) ≡ b → found n (cond (not b) (l ∷ without_listener k ls) (without_listener k ls)) ≡ cond (k == n) None (cond (l.0 == n) (Some l.1) (found n ls))) [
      | true ↦ λ e.
          rest
          ∙ elim (k == n) as (λ b. (l.0 == n) ≡ b → cond b None (found n ls) ≡ cond b None (cond (l.0 == n) (Some l.1) (found n ls))) [
            | true ↦ λ t. refl
            | false ↦ λ t. ap (λ b. cond b (Some l.1) (found n ls)) (sym t)
          ] (ap (λ x. x == n) (same_number l.0 k e))
      | false ↦ λ e.
          found-cons n l (without_listener k ls)
          ∙ ap (λ z. cond (l.0 == n) (Some l.1) z) rest
          ∙ elim (k == n) as (λ b. (k == n) ≡ b → cond (l.0 == n) (Some l.1) (cond b None (found n ls)) ≡ cond b None (cond (l.0 == n) (Some l.1) (found n ls))) [
            | true ↦ λ t. ap (λ b. cond b (Some l.1) None) (other_number l.0 n (λ same. apart l.0 k e (same ∙ sym (same_number k n t))))
            | false ↦ λ t. refl
          ] refl
    ] refl
    ∙ ap (cond (k == n) None) (sym (found-cons n l ls))

found-played : (n k : ℕ) (cs : List Change) (ls : List (ℕ × Children)) → found n (map (played k cs) ls) ≡ cond (k == n) (option_map (replay cs) (found n ls)) (found n ls)
found-played n k cs [] = none_is (k == n) None
found-played n k cs (l ∷ ls) =
    let rest = found-played n k cs ls in
    let all = map (played k cs) ls in
    elim (l.0 == k) as (λ b. (l.0 == k) ≡ b → found n (cond b (l.0, replay cs l.1) l ∷ all) ≡ cond (k == n) (option_map (replay cs) (cond (l.0 == n) (Some l.1) (found n ls))) (cond (l.0 == n) (Some l.1) (found n ls))) [
      | true ↦ λ e.
          found-cons n (l.0, replay cs l.1) all
          ∙ ap (λ z. cond (l.0 == n) (Some (replay cs l.1)) z) rest
          ∙ ap (λ b. cond b (Some (replay cs l.1)) (cond (k == n) (option_map (replay cs) (found n ls)) (found n ls))) (ap (λ x. x == n) (same_number l.0 k e))
          ∙ elim (k == n) as (λ b. cond b (Some (replay cs l.1)) (cond b (option_map (replay cs) (found n ls)) (found n ls)) ≡ cond b (option_map (replay cs) (cond b (Some l.1) (found n ls))) (cond b (Some l.1) (found n ls))) [ true ↦ refl | false ↦ refl ]
          ∙ ap (λ b. cond (k == n) (option_map (replay cs) (cond b (Some l.1) (found n ls))) (cond b (Some l.1) (found n ls))) (sym (ap (λ x. x == n) (same_number l.0 k e)))
      | false ↦ λ e.
          found-cons n l all
          ∙ ap (λ z. cond (l.0 == n) (Some l.1) z) rest
          ∙ elim (k == n) as (λ b. (k == n) ≡ b → cond (l.0 == n) (Some l.1) (cond b (option_map (replay cs) (found n ls)) (found n ls)) ≡ cond b (option_map (replay cs) (cond (l.0 == n) (Some l.1) (found n ls))) (cond (l.0 == n) (Some l.1) (found n ls))) [
            | true ↦ λ t.
                let other : (l.0 == n) ≡ false = other_number l.0 n (λ same. apart l.0 k e (same ∙ sym (same_number k n t))) in
                ap (λ b. cond b (Some l.1) (option_map (replay cs) (found n ls))) other
                ∙ ap (λ b. option_map (replay cs) (cond b (Some l.1) (found n ls))) (sym other)
            | false ↦ λ t. refl
          ] refl
    ] refl
    ∙ ap (λ z. cond (k == n) (option_map (replay cs) z) z) (sym (found-cons n l ls))

-- a listener that comes has no children; one that is there keeps them
abbrev come : Option Children → Option Children
come c = Some (option_map_or (λ x. x) c [])

found-with : (n k : ℕ) (ls : List (ℕ × Children)) → Rise (numbers ls) → found n (with_listener k ls) ≡ cond (k == n) (come (found n ls)) (found n ls)
found-with n k [] h = elim (k == n) as (λ b. option_map (λ (x : ℕ × Children). x.1) (cond b (Some (k, [])) None) ≡ cond b (Some []) None) [ true ↦ refl | false ↦ refl ]
found-with n k (l ∷ ls) h =
    let rest = found-with n k ls h.1 in
    let here = found n (l ∷ ls) in
    elim (nat_le k l.0) as (λ b. nat_le k l.0 ≡ b → found n (cond b (cond (l.0 == k) (l ∷ ls) ((k, []) ∷ l ∷ ls)) (l ∷ with_listener k ls)) ≡ cond (k == n) (come here) here) [
      | true ↦ λ e. elim (l.0 == k) as (λ b. (l.0 == k) ≡ b → found n (cond b (l ∷ ls) ((k, []) ∷ l ∷ ls)) ≡ cond (k == n) (come here) here) [
        | true ↦ λ o. elim (k == n) as (λ b. (k == n) ≡ b → here ≡ cond b (come here) here) [
          | true ↦ λ t.
              let it : here ≡ Some l.1 = found-cons n l ls ∙ ap (λ b. cond b (Some l.1) (found n ls)) (ap (λ x. x == n) (same_number l.0 k o) ∙ t) in
              it ∙ ap come (sym it)
          | false ↦ λ t. refl
        ] refl
        | false ↦ λ o.
            let lt = below_other k l.0 e o in
            found-cons n (k, []) (l ∷ ls)
            ∙ elim (k == n) as (λ b. (k == n) ≡ b → cond b (Some []) here ≡ cond b (come here) here) [
              | true ↦ λ t. ap come (sym (found-above n (l ∷ ls) (subst (λ x. AreAbove x (numbers (l ∷ ls))) (same_number k n t) (lt, above_lower k l.0 (numbers ls) lt h.0))))
              | false ↦ λ t. refl
            ] refl
      ] refl
      | false ↦ λ e.
          let lt = beyond k l.0 e in
          found-cons n l (with_listener k ls)
          ∙ ap (λ z. cond (l.0 == n) (Some l.1) z) rest
          ∙ elim (k == n) as (λ b. (k == n) ≡ b → cond (l.0 == n) (Some l.1) (cond b (come (found n ls)) (found n ls)) ≡ cond b (come (cond (l.0 == n) (Some l.1) (found n ls))) (cond (l.0 == n) (Some l.1) (found n ls))) [
            | true ↦ λ t.
                let other : (l.0 == n) ≡ false = other_number l.0 n (λ same. let at = same_number k n t in omega (arith, same, at, lt)) in
                ap (λ b. cond b (Some l.1) (come (found n ls))) other ∙ ap (λ b. come (cond b (Some l.1) (found n ls))) (sym other)
            | false ↦ λ t. refl
          ] refl
          ∙ ap (λ z. cond (k == n) (come z) z) (sym (found-cons n l ls))
    ] refl

heard_one : (n : ℕ) (m : Known) (i : Item) → Known-rises m → children_of (taken m i) n ≡ heard_by n (children_of m n) i
heard_one n m (item.Receipt (Listened k query)) h = found-with n k m.listeners h.0
heard_one n m (item.Receipt (Unlistened k)) h = found-without n k m.listeners
heard_one n m (item.Receipt (Wrote id what)) h = refl
heard_one n m (item.Receipt (Asked id what)) h = refl
heard_one n m (item.Batch b) h = found-played n b.listener b.changes m.listeners
heard_one n m (item.Settled id why) h = refl
heard_one n m (item.Cancelled k why) h = found-without n k m.listeners

heard_all : (n : ℕ) (items : List Item) (m : Known) → Known-rises m → children_of (known_of m items) n ≡ fold (heard_by n) (children_of m n) items
heard_all n [] m h = refl
heard_all n (i ∷ items) m h = heard_all n items (taken m i) (taken_rises m i h) ∙ ap (λ c. fold (heard_by n) c items) (heard_one n m i h)

pub children_are_replayed : ChildrenAreReplayed
children_are_replayed items n = heard_all n items nothing_known (tt, tt)
