-- What receipts, settlements and cancellations leave of what is known of a seat.
use Rattle.std.proofs.Common.{◌≡◌, ℕ, ◌<◌, Bool, true, false, cond, ◌&&◌, ◌||◌, ◌==◌, nat_le, not, List, [], ◌∷◌, ◌++◌, map, refl, sym, ap, ◌∙◌, arith, Option, Some, None}
use Rattle.std.specs.List.{filter, filter_map, cons_option, fold, list_any, All}
use Rattle.std.specs.Option.{option_map, option_map_or, option_eq}
use Rattle.std.proofs.lemmas.List.Elements.{All-head, All-tail, All-filter, All-map, filter-append}
use Rattle.std.proofs.lemmas.List.{map-append}
use Rattle.std.proofs.lemmas.Bool.Decides.{nat_tests}
use Rattle.rt_world.specs.declared.report.Body.TheVariants as body
use Rattle.rt_world.specs.declared.report.Note.{Note}
use Rattle.rt_world.specs.declared.step.Request.{Request}
use Rattle.rt_world.specs.World.{Reason, Listener}
use Rattle.rt_world.specs.steps.Closing.{unseated}
use Rattle.rt_world.specs.Answers.{settled_note}
use Rattle.rt_world.specs.Sound.{Rises}
use Rattle.rt_mail.specs.declared.item.Item.TheVariants as item
use Rattle.rt_mail.specs.Mailbox.{Children, Known, known_of, with_listener, without_listener, with_request, without_request}
use Rattle.rt_client.specs.Seats.{told_to, shown_by, is_of_seat}
use Rattle.rt_client.proofs.Ended as ended
use Rattle.rt_client.proofs.Ended.{of_seat, without, of_seat-without, cancelled_left}
use Rattle.rt_client.proofs.Filters.{filter-filter, filter-map, filter_same}
use Rattle.rt_client.proofs.Numbers.{or_false_left, or_false_right, same_number, both_swap}

-- a seat's listeners, and its requests
abbrev pub rows_at : ℕ → List Listener → List (ℕ × Children)
rows_at seat ls = map shown_by (filter (λ l. l.seat == seat) ls)

abbrev pub ids_at : ℕ → List Request → List ℕ
ids_at seat rs = map (λ r. r.id) (filter (is_of_seat seat) rs)

pub rows_at-append : (seat : ℕ) (xs ys : List Listener) → rows_at seat (xs ++ ys) ≡ rows_at seat xs ++ rows_at seat ys
rows_at-append seat xs ys = ap (map shown_by) (filter-append (λ (l : Listener). l.seat == seat) xs ys) ∙ map-append shown_by (filter (λ (l : Listener). l.seat == seat) xs) (filter (λ (l : Listener). l.seat == seat) ys)

pub ids_at-append : (seat : ℕ) (xs ys : List Request) → ids_at seat (xs ++ ys) ≡ ids_at seat xs ++ ids_at seat ys
ids_at-append seat xs ys = ap (map (λ (r : Request). r.id)) (filter-append (is_of_seat seat) xs ys) ∙ map-append (λ (r : Request). r.id) (filter (is_of_seat seat) xs) (filter (is_of_seat seat) ys)

-- ---- new numbers

above_all : (m n : ℕ) → m < n → nat_le n m ≡ false
above_all m n lt = grind (arith, nat_tests)

-- a new listener comes last
pub with_listener-last : (n : ℕ) (known : List (ℕ × Children)) → All (λ (e : ℕ × Children). e.0 < n) known → with_listener n known ≡ known ++ (n, []) ∷ []
with_listener-last n [] h = refl
with_listener-last n (e ∷ known) h =
    ap (λ b. cond b (cond (e.0 == n) (e ∷ known) ((n, []) ∷ e ∷ known)) (e ∷ with_listener n known)) (above_all e.0 n (All-head (λ (e : ℕ × Children). e.0 < n) e known h))
    ∙ ap (λ z. e ∷ z) (with_listener-last n known (All-tail (λ (e : ℕ × Children). e.0 < n) e known h))

-- and so does a new request
pub with_request-last : (n : ℕ) (ids : List ℕ) → All (λ i. i < n) ids → with_request n ids ≡ ids ++ n ∷ []
with_request-last n [] h = refl
with_request-last n (i ∷ ids) h =
    ap (λ b. cond b (cond (i == n) (i ∷ ids) (n ∷ i ∷ ids)) (i ∷ with_request n ids)) (above_all i n (All-head (λ i. i < n) i ids h))
    ∙ ap (λ z. i ∷ z) (with_request-last n ids (All-tail (λ i. i < n) i ids h))

pub rows_below : (seat n : ℕ) (ls : List Listener) → All (λ (l : Listener). l.number < n) ls → All (λ (e : ℕ × Children). e.0 < n) (rows_at seat ls)
rows_below seat n ls h = All-map (λ (e : ℕ × Children). e.0 < n) shown_by (filter (λ (l : Listener). l.seat == seat) ls) (All-filter (λ (l : Listener). l.seat == seat) (λ (l : Listener). l.number < n) ls h)

pub ids_below : (seat n : ℕ) (rs : List Request) → All (λ (r : Request). r.id < n) rs → All (λ i. i < n) (ids_at seat rs)
ids_below seat n rs h = All-map (λ i. i < n) (λ (r : Request). r.id) (filter (is_of_seat seat) rs) (All-filter (is_of_seat seat) (λ (r : Request). r.id < n) rs h)

-- ---- closed seats

-- whether a request is that seat's, as closing a seat asks
abbrev is_own : ℕ → Option ℕ → Bool
is_own own o = option_eq (λ a b. a == b) o (Some own)

-- one of a seat that is closed is not of another
own_other : (own seat : ℕ) (o : Option ℕ) → (own == seat) ≡ false → is_own own o ≡ true → option_map_or (λ m. m == seat) o false ≡ false
own_other own seat None closed e = refl
own_other own seat (Some m) closed e = ap (λ n. n == seat) (same_number m own e) ∙ closed

-- the requests of a seat that stays open keep it
pub ids-unseated : (own seat : ℕ) → (own == seat) ≡ false → (rs : List Request) → ids_at seat (map (unseated own) rs) ≡ ids_at seat rs
ids-unseated own seat closed [] = refl
ids-unseated own seat closed (r ∷ rs) =
    let rest = ids-unseated own seat closed rs in
    let z = filter (is_of_seat seat) (map (unseated own) rs) in
    elim (is_own own r.seat) as (λ b. is_own own r.seat ≡ b
    → map (λ (r : Request). r.id) (cond (is_of_seat seat (cond b (record r { seat = None }) r)) (cond b (record r { seat = None }) r ∷ z) z) ≡ ids_at seat (r ∷ rs)) [
      | true ↦ λ e. rest ∙ ap (λ q. map (λ (r : Request). r.id) (cond q (r ∷ filter (is_of_seat seat) rs) (filter (is_of_seat seat) rs))) (sym (own_other own seat r.seat closed e))
      | false ↦ λ e. elim (is_of_seat seat r) as (λ q. map (λ (r : Request). r.id) (cond q (r ∷ z) z) ≡ map (λ (r : Request). r.id) (cond q (r ∷ filter (is_of_seat seat) rs) (filter (is_of_seat seat) rs))) [
        | true ↦ ap (λ y. r.id ∷ y) rest
        | false ↦ rest
      ]
    ] refl

-- and of one that is closed none is left
pub ids-closed : (seat : ℕ) (rs : List Request) → ids_at seat (map (unseated seat) rs) ≡ []
ids-closed seat [] = refl
ids-closed seat (r ∷ rs) =
    let rest = ids-closed seat rs in
    let z = filter (is_of_seat seat) (map (unseated seat) rs) in
    elim (is_own seat r.seat) as (λ b. is_own seat r.seat ≡ b
    → map (λ (r : Request). r.id) (cond (is_of_seat seat (cond b (record r { seat = None }) r)) (cond b (record r { seat = None }) r ∷ z) z) ≡ []) [
      | true ↦ λ e. rest
      | false ↦ λ e. ap (λ q. map (λ (r : Request). r.id) (cond q (r ∷ z) z)) (none r.seat e) ∙ rest
    ] refl
  where
    none : (o : Option ℕ) → is_own seat o ≡ false → option_map_or (λ m. m == seat) o false ≡ false
    none None e = refl
    none (Some m) e = e

pub rows-closed : (seat : ℕ) (f : Listener → Listener) → ((l : Listener) → (f l).seat ≡ l.seat) → (ls : List Listener) → rows_at seat (map f (filter (λ l. not (l.seat == seat)) ls)) ≡ []
rows-closed seat f same [] = refl
rows-closed seat f same (l ∷ ls) =
    let rest = rows-closed seat f same ls in
    let gs = filter (λ (m : Listener). not (m.seat == seat)) ls in
    let zs = filter (λ (m : Listener). m.seat == seat) (map f gs) in
    elim (l.seat == seat) as (λ b. (l.seat == seat) ≡ b → rows_at seat (map f (cond (not b) (l ∷ gs) gs)) ≡ []) [
      | true ↦ λ e. rest
      | false ↦ λ e. ap (λ b. map shown_by (cond b (f l ∷ zs) zs)) (ap (λ n. n == seat) (same l) ∙ e) ∙ rest
    ] refl

-- ---- settlements

-- the request is the settled one, and the seat's
abbrev pub is_due : ℕ → ℕ → Request → Bool
is_due seat id r = r.id == id && is_of_seat seat r

without_again : (id : ℕ) (ids : List ℕ) → without_request id (without_request id ids) ≡ without_request id ids
without_again id ids = filter-filter (λ r. not (r == id)) (λ r. not (r == id)) ids ∙ filter_same _ _ ids (λ x. twice (not (x == id)))
  where
    twice : (b : Bool) → (b && b) ≡ b
    twice true = refl
    twice false = refl

pub settled_told : (seat id : ℕ) (why : Option Reason) (r : Request) (rest : List Note)
    → told_to seat (cons_option (settled_note (id, why) r) rest) ≡ cond (is_due seat id r) (item.Settled id why ∷ told_to seat rest) (told_to seat rest)
settled_told seat id why r rest =
    elim (r.id == id) as (λ b. told_to seat (cons_option (cond b (option_map (λ s. record { seat = s; body = body.Settled id why }) r.seat) None) rest)
    ≡ cond (b && is_of_seat seat r) (item.Settled id why ∷ told_to seat rest) (told_to seat rest)) [
      | true ↦ elim r.seat as (λ o. told_to seat (cons_option (option_map (λ s. record { seat = s; body = body.Settled id why }) o) rest) ≡ cond (option_map_or (λ s. s == seat) o false) (item.Settled id why ∷ told_to seat rest) (told_to seat rest)) [
        | Some s ↦ elim (s == seat) as (λ b. cons_option (cond b (Some (item.Settled id why)) None) (told_to seat rest) ≡ cond b (item.Settled id why ∷ told_to seat rest) (told_to seat rest)) [ true ↦ refl | false ↦ refl ]
        | None ↦ refl
      ]
      | false ↦ refl
    ]

-- the settlements that a seat is told
pub settled_known : (seat id : ℕ) (why : Option Reason) (rs : List Request) (m : Known)
    → known_of m (told_to seat (filter_map (settled_note (id, why)) rs)) ≡ record m { requests = cond (list_any (is_due seat id) rs) (without_request id m.requests) m.requests }
settled_known seat id why [] m = refl
settled_known seat id why (r ∷ rs) m =
    ap (known_of m) (settled_told seat id why r (filter_map (settled_note (id, why)) rs))
    ∙ elim (is_due seat id r) as (λ b. known_of m (cond b (item.Settled id why ∷ told_to seat (filter_map (settled_note (id, why)) rs)) (told_to seat (filter_map (settled_note (id, why)) rs)))
    ≡ record m { requests = cond (b || list_any (is_due seat id) rs) (without_request id m.requests) m.requests }) [
      | true ↦
          settled_known seat id why rs (record m { requests = without_request id m.requests })
          ∙ (λ i. record m { requests = once i })
      | false ↦ settled_known seat id why rs m
    ]
  where
    once : cond (list_any (is_due seat id) rs) (without_request id (without_request id m.requests)) (without_request id m.requests) ≡ without_request id m.requests
    once = elim (list_any (is_due seat id) rs) as (λ b. cond b (without_request id (without_request id m.requests)) (without_request id m.requests) ≡ without_request id m.requests) [
      | true ↦ without_again id m.requests
      | false ↦ refl
    ]

pub ids-without : (seat id : ℕ) (rs : List Request) → without_request id (ids_at seat rs) ≡ ids_at seat (filter (λ r. not (r.id == id)) rs)
ids-without seat id rs =
    filter-map (λ i. not (i == id)) (λ (r : Request). r.id) (filter (is_of_seat seat) rs)
    ∙ ap (map (λ (r : Request). r.id)) (filter-filter (λ (r : Request). not (r.id == id)) (is_of_seat seat) rs
    ∙ filter_same _ _ rs (λ r. both_swap (is_of_seat seat r) (not (r.id == id))) ∙ sym (filter-filter (is_of_seat seat) (λ (r : Request). not (r.id == id)) rs))

-- where none is due, none goes
ids-none : (seat id : ℕ) (rs : List Request) → list_any (is_due seat id) rs ≡ false → ids_at seat rs ≡ without_request id (ids_at seat rs)
ids-none seat id [] h = refl
ids-none seat id (r ∷ rs) h =
    let rest = ids-none seat id rs (or_false_right (is_due seat id r) (list_any (is_due seat id) rs) h) in
    elim (is_of_seat seat r) as (λ b. (r.id == id && b) ≡ false
    → map (λ (r : Request). r.id) (cond b (r ∷ filter (is_of_seat seat) rs) (filter (is_of_seat seat) rs)) ≡ without_request id (map (λ (r : Request). r.id) (cond b (r ∷ filter (is_of_seat seat) rs) (filter (is_of_seat seat) rs)))) [
      | true ↦ λ e. ap (λ z. r.id ∷ z) rest ∙ sym (ap (λ b. cond (not b) (r.id ∷ without_request id (ids_at seat rs)) (without_request id (ids_at seat rs))) (both_swap true (r.id == id) ∙ e))
      | false ↦ λ e. rest
    ] (or_false_left (is_due seat id r) (list_any (is_due seat id) rs) h)

pub settled_ids : (seat id : ℕ) (rs : List Request) → cond (list_any (is_due seat id) rs) (without_request id (ids_at seat rs)) (ids_at seat rs) ≡ ids_at seat (filter (λ r. not (r.id == id)) rs)
settled_ids seat id rs =
    elim (list_any (is_due seat id) rs) as (λ b. list_any (is_due seat id) rs ≡ b → cond b (without_request id (ids_at seat rs)) (ids_at seat rs) ≡ without_request id (ids_at seat rs)) [
      | true ↦ λ e. refl
      | false ↦ λ e. ids-none seat id rs e
    ] refl ∙ ids-without seat id rs

-- ---- cancellations

-- the note of a listener that is cancelled
abbrev pub cancelled_note : Reason → Listener → Note
cancelled_note why l = record { seat = l.seat; body = body.Cancelled l.number why }

-- one that has ended goes, if it is that seat's
abbrev pub drops_one : ℕ → List (ℕ × Children) → Listener → List (ℕ × Children)
drops_one seat known x = cond (x.seat == seat) (without_listener x.number known) known

abbrev pub drops : ℕ → List Listener → List (ℕ × Children) → List (ℕ × Children)
drops seat xs known = fold (drops_one seat) known xs

-- the cancellations that a seat is told
pub cancelled_known : (seat : ℕ) (why : Reason) (xs : List Listener) (m : Known) → known_of m (told_to seat (map (cancelled_note why) xs)) ≡ record m { listeners = drops seat xs m.listeners }
cancelled_known seat why [] m = refl
cancelled_known seat why (x ∷ xs) m =
    let rest = told_to seat (map (cancelled_note why) xs) in
    elim (x.seat == seat) as (λ b. known_of m (cons_option (cond b (Some (item.Cancelled x.number why)) None) rest) ≡ record m { listeners = drops seat xs (cond b (without_listener x.number m.listeners) m.listeners) }) [
      | true ↦ cancelled_known seat why xs (record m { listeners = without_listener x.number m.listeners })
      | false ↦ cancelled_known seat why xs m
    ]

-- of rows as of their listeners
drops-rows : (seat : ℕ) (xs ls : List Listener) → drops seat xs (map shown_by ls) ≡ map shown_by (ended.drops seat xs ls)
drops-rows seat [] ls = refl
drops-rows seat (x ∷ xs) ls =
    elim (x.seat == seat) as (λ b. drops seat xs (cond b (without_listener x.number (map shown_by ls)) (map shown_by ls)) ≡ map shown_by (ended.drops seat xs (cond b (without x.number ls) ls))) [
      | true ↦ ap (drops seat xs) (filter-map (λ (e : ℕ × Children). not (e.0 == x.number)) shown_by ls) ∙ drops-rows seat xs (without x.number ls)
      | false ↦ drops-rows seat xs ls
    ]

-- those that have ended go, the others stay
pub cancelled_rows : (seat : ℕ) (c : Listener → Bool) (ls : List Listener) → Rises ls → drops seat (filter c ls) (rows_at seat ls) ≡ rows_at seat (filter (λ l. not (c l)) ls)
cancelled_rows seat c ls r = drops-rows seat (filter c ls) (of_seat seat ls) ∙ ap (map shown_by) (cancelled_left seat c ls r)

-- ---- a listener that its seat ends

-- the seat's own listeners without that number
pub unlistened_own : (seat n : ℕ) (ls : List Listener) → without_listener n (rows_at seat ls) ≡ rows_at seat (filter (λ l. not (l.number == n)) ls)
unlistened_own seat n ls = filter-map (λ (e : ℕ × Children). not (e.0 == n)) shown_by (of_seat seat ls) ∙ ap (map shown_by) (of_seat-without seat n ls)

-- where it is another seat's, no listener of the seat goes
pub unlistened_other : (seat other n : ℕ) (ls : List Listener) → (other == seat) ≡ false → Rises ls → list_any (λ (l : Listener). l.number == n && l.seat == other) ls ≡ true
    → rows_at seat (filter (λ l. not (l.number == n)) ls) ≡ rows_at seat ls
unlistened_other seat other n ls e r h = ap (map shown_by) (ended.unlistened_left seat other n ls e r h)
