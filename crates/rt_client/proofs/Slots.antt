-- Lanes at their places.
use Rattle.std.proofs.Common.{◌≡◌, ℕ, zero, suc, ◌+◌, ◌-◌, ◌<◌, ◌≤◌, true, false, cond, ◌==◌, List, [], ◌∷◌, ◌++◌, length, take, drop, set, get_or, refl, sym, ap, subst, ◌∙◌, arith, append-nil, append_assoc, Option, Some, None, Ok, Err, Result, OnOk, IfErr, IsTrue, is_some}
use Rattle.std.specs.List.{cons_option, slice_get}
use Rattle.std.specs.Option.{option_map}
use Rattle.rt_world.specs.declared.report.Note.{Note}
use Rattle.rt_mail.specs.declared.error.MailError.{MailError}
use Rattle.rt_mail.specs.declared.item.Item.{Item}
use Rattle.rt_mail.specs.Lanes.{Line, with_waiting, why_not}
use Rattle.rt_client.specs.Seats.{item_of, told_to}
use Rattle.rt_client.specs.Lanes.{lane_of, with_told, AreQueued, StopsAt, IsChanged}
use Rattle.rt_client.specs.Opened.{AreOpenBelow}
use Rattle.rt_client.proofs.Numbers.{same_number, apart}
use Rattle.rt_client.proofs.Reflects.{told_to-append}

abbrev pub Lines : Type 0
Lines = List (Option Line)

-- ---- one place

lane_of_set-here : (xs : Lines) (p : ℕ) (x : Option Line) → p < length xs → lane_of (set xs p x) (suc p) ≡ x
lane_of_set-here [] p x lt = absurd (omega arith)
lane_of_set-here (y ∷ xs) zero x lt = refl
lane_of_set-here (y ∷ xs) (suc p) x lt = lane_of_set-here xs p x (omega arith)

lane_of_set-other : (xs : Lines) (p k : ℕ) (x : Option Line) → (p ≡ k → ⊥) → lane_of (set xs p x) (suc k) ≡ lane_of xs (suc k)
lane_of_set-other [] p k x apart = refl
lane_of_set-other (y ∷ xs) zero zero x apart = absurd (apart refl)
lane_of_set-other (y ∷ xs) zero (suc k) x apart = refl
lane_of_set-other (y ∷ xs) (suc p) zero x apart = refl
lane_of_set-other (y ∷ xs) (suc p) (suc k) x apart = lane_of_set-other xs p k x (λ e. apart (ap suc e))

lane_of_at : (xs : Lines) (p : ℕ) (d : Option Line) → p < length xs → lane_of xs (suc p) ≡ get_or xs p d
lane_of_at [] p d lt = absurd (omega arith)
lane_of_at (y ∷ xs) zero d lt = elim y as (λ y. lane_of (y ∷ xs) 1 ≡ y) [ Some l ↦ refl | None ↦ refl ]
lane_of_at (y ∷ xs) (suc p) d lt = lane_of_at xs p d (omega arith)

lane_of_past : (xs : Lines) (p : ℕ) → length xs ≤ p → lane_of xs (suc p) ≡ None
lane_of_past [] p le = refl
lane_of_past (y ∷ xs) zero le = absurd (omega arith)
lane_of_past (y ∷ xs) (suc p) le = lane_of_past xs p (omega arith)

-- ---- seats

-- a seat's place
seat_at : (seat : ℕ) → 1 ≤ seat → seat ≡ suc (seat - 1)
seat_at zero one = absurd (omega arith)
seat_at (suc k) one = omega arith

-- the lane of a seat of the list
pub lane_there : (xs : Lines) (seat : ℕ) (d : Option Line) → 1 ≤ seat → seat - 1 < length xs → lane_of xs seat ≡ get_or xs (seat - 1) d
lane_there xs seat d one lt = ap (lane_of xs) (seat_at seat one) ∙ lane_of_at xs (seat - 1) d lt

-- a seat past the list has no lane
pub lane_past : (xs : Lines) (seat : ℕ) → 1 ≤ seat → length xs ≤ seat - 1 → lane_of xs seat ≡ None
lane_past xs seat one le = ap (lane_of xs) (seat_at seat one) ∙ lane_of_past xs (seat - 1) le

-- the lane at the seat's place is set
pub set_at_seat : (xs : Lines) (seat : ℕ) (new : Option Line) → 1 ≤ seat → seat - 1 < length xs → IsChanged seat new xs (set xs (seat - 1) new)
set_at_seat xs seat new one lt n =
    elim (seat == n) as (λ b. (seat == n) ≡ b → lane_of (set xs (seat - 1) new) n ≡ cond b new (lane_of xs n)) [
      | true ↦ λ e.
          ap (lane_of (set xs (seat - 1) new)) (sym (same_number seat n e) ∙ seat_at seat one)
          ∙ lane_of_set-here xs (seat - 1) new lt
      | false ↦ λ e. other n (apart seat n e)
    ] refl
  where
    other : (m : ℕ) → (seat ≡ m → ⊥) → lane_of (set xs (seat - 1) new) m ≡ lane_of xs m
    other zero away = refl
    other (suc k) away = lane_of_set-other xs (seat - 1) k new (λ same. away (seat_at seat one ∙ ap suc same))

-- a lane that is set to what it was
pub changed_to_itself : (xs : Lines) (seat : ℕ) (lane : Option Line) → lane_of xs seat ≡ lane → IsChanged seat lane xs xs
changed_to_itself xs seat lane e n =
    elim (seat == n) as (λ b. (seat == n) ≡ b → lane_of xs n ≡ cond b lane (lane_of xs n)) [
      | true ↦ λ t. ap (lane_of xs) (sym (same_number seat n t)) ∙ e
      | false ↦ λ t. refl
    ] refl

-- ---- a seat that is opened

-- a lane at a place where there is none
pub set_at_place : (xs : Lines) (p : ℕ) (new : Option Line) → p < length xs → IsChanged (p + 1) new xs (set xs p new)
set_at_place xs p new lt =
    let same : p + 1 - 1 ≡ p = omega arith in
    subst (λ k. IsChanged (p + 1) new xs (set xs k new)) same (set_at_seat xs (p + 1) new (omega arith) (omega arith))

pushed_last : (xs : Lines) (x : Option Line) → lane_of (xs ++ x ∷ []) (suc (length xs)) ≡ x
pushed_last [] x = refl
pushed_last (y ∷ xs) x = pushed_last xs x

pushed_other : (xs : Lines) (x : Option Line) (k : ℕ) → (length xs ≡ k → ⊥) → lane_of (xs ++ x ∷ []) (suc k) ≡ lane_of xs (suc k)
pushed_other [] x zero away = absurd (away refl)
pushed_other [] x (suc k) away = refl
pushed_other (y ∷ xs) x zero away = refl
pushed_other (y ∷ xs) x (suc k) away = pushed_other xs x k (λ e. away (ap suc e))

-- and one behind the last place
pub pushed_at_end : (xs : Lines) (p : ℕ) (new : Option Line) → p ≡ length xs → IsChanged (p + 1) new xs (xs ++ new ∷ [])
pushed_at_end xs p new end n =
    elim (p + 1 == n) as (λ b. (p + 1 == n) ≡ b → lane_of (xs ++ new ∷ []) n ≡ cond b new (lane_of xs n)) [
      | true ↦ λ e.
          let here : n ≡ suc (length xs) = sym (same_number (p + 1) n e) ∙ next in
          ap (lane_of (xs ++ new ∷ [])) here ∙ pushed_last xs new
      | false ↦ λ e. other n (apart (p + 1) n e)
    ] refl
  where
    next : p + 1 ≡ suc (length xs)
    next = omega (arith, end)

    other : (m : ℕ) → (p + 1 ≡ m → ⊥) → lane_of (xs ++ new ∷ []) m ≡ lane_of xs m
    other zero away = refl
    other (suc k) away = pushed_other xs new k (λ e. away (next ∙ ap suc e))

-- the seats before the first one that is not open
pub none_open : (xs : Lines) → AreOpenBelow 1 xs
none_open xs n one below = absurd (omega (arith, one, below))

pub open_more : (xs : Lines) (p : ℕ) (lane : Option Line) → AreOpenBelow (p + 1) xs → p < length xs → get_or xs p None ≡ lane → IsTrue (is_some lane) → AreOpenBelow (p + 1 + 1) xs
open_more xs p lane before lt at some n one below =
    elim (n == p + 1) as (λ b. (n == p + 1) ≡ b → IsTrue (is_some (lane_of xs n))) [
      | true ↦ λ e.
          let here : n ≡ suc p = same_number n (p + 1) e ∙ next in
          subst (λ l. IsTrue (is_some l)) (sym (ap (lane_of xs) here ∙ lane_of_at xs p None lt ∙ at)) some
      | false ↦ λ e. let away = apart n (p + 1) e in before n one (lower away)
    ] refl
  where
    next : p + 1 ≡ suc p
    next = omega arith

    lower : (n ≡ p + 1 → ⊥) → n < p + 1
    lower away = omega (arith, below, away)

-- the first place where there is none
pub none_at : (xs : Lines) (p : ℕ) (d : Option Line) → p < length xs → get_or xs p d ≡ None → lane_of xs (p + 1) ≡ None
none_at xs p d lt e = let next : p + 1 ≡ suc p = omega arith in ap (lane_of xs) next ∙ lane_of_at xs p d lt ∙ e

pub none_behind : (xs : Lines) → lane_of xs (length xs + 1) ≡ None
none_behind xs = lane_past xs (length xs + 1) (omega arith) (omega arith)

-- ---- what follows of an answer

pub on_ok : {X Y : Type 0} {A B : Type 0} (r : Result X Y) → (A → B) → OnOk r A → OnOk r B
on_ok (Ok x) f h = f h
on_ok (Err e) f h = tt

pub if_err : {X Y : Type 0} {A B : Y → Type 0} (r : Result X Y) → ((e : Y) → A e → B e) → IfErr r A → IfErr r B
if_err (Ok x) f h = tt
if_err (Err e) f h = f e h

-- ---- notes

told_none : (o : Option Line) → option_map (with_told []) o ≡ o
told_none (Some l) = λ i. Some (record l { waiting = append-nil l.waiting i })
told_none None = refl

-- no notes
pub queued_none : (xs : Lines) → AreQueued [] xs xs
queued_none xs seat = sym (told_none (lane_of xs seat))

-- notes and then more, for one seat
told_again : (xs ys : List Item) (o : Option Line) → option_map (with_told ys) (option_map (with_told xs) o) ≡ option_map (with_told (xs ++ ys)) o
told_again xs ys (Some l) = λ i. Some (record l { waiting = append_assoc l.waiting xs ys i })
told_again xs ys None = refl

-- one note, for one seat
told_one : (seat : ℕ) (note : Note) (o : Option Line)
    → cond (note.seat == seat) (option_map (with_waiting (item_of note.body)) o) o ≡ option_map (with_told (told_to seat (note ∷ []))) o
told_one seat note o =
    elim (note.seat == seat) as (λ b. cond b (option_map (with_waiting (item_of note.body)) o) o ≡ option_map (with_told (cons_option (cond b (Some (item_of note.body)) None) [])) o) [
      | true ↦ refl
      | false ↦ sym (told_none o)
    ]

-- the note's seat's lane as it is changed, whichever seat is asked
pub at_seat : (xs : Lines) (seat n : ℕ) (f : Option Line → Option Line) → cond (seat == n) (f (lane_of xs seat)) (lane_of xs n) ≡ cond (seat == n) (f (lane_of xs n)) (lane_of xs n)
at_seat xs seat n f =
    elim (seat == n) as (λ b. (seat == n) ≡ b → cond b (f (lane_of xs seat)) (lane_of xs n) ≡ cond b (f (lane_of xs n)) (lane_of xs n)) [
      | true ↦ λ e. ap (λ m. f (lane_of xs m)) (same_number seat n e)
      | false ↦ λ e. refl
    ] refl

-- some notes, and then one more
queued_last : (xs : List Note) (note : Note) (old mid new : Lines) → AreQueued xs old mid
    → IsChanged note.seat (option_map (with_waiting (item_of note.body)) (lane_of mid note.seat)) mid new → AreQueued (xs ++ note ∷ []) old new
queued_last xs note old mid new before last seat =
    last seat ∙ at_seat mid note.seat seat (option_map (with_waiting (item_of note.body)))
    ∙ told_one seat note (lane_of mid seat)
    ∙ ap (option_map (with_told (told_to seat (note ∷ [])))) (before seat)
    ∙ told_again (told_to seat xs) (told_to seat (note ∷ [])) (lane_of old seat)
    ∙ ap (λ z. option_map (with_told z) (lane_of old seat)) (sym (told_to-append seat xs (note ∷ [])))

-- ---- notes one by one

take-more : (k : ℕ) (xs : List Note) (x : Note) (rest : List Note) → drop k xs ≡ x ∷ rest → take (suc k) xs ≡ take k xs ++ x ∷ []
take-more zero [] x rest e = cc
take-more zero (y ∷ xs) x rest e = let head : y ≡ x = cc in ap (λ z. z ∷ []) head
take-more (suc k) [] x rest e = cc
take-more (suc k) (y ∷ xs) x rest e = ap (λ z. y ∷ z) (take-more k xs x rest e)

drop-more : (k : ℕ) (xs : List Note) (x : Note) (rest : List Note) → drop k xs ≡ x ∷ rest → drop (suc k) xs ≡ rest
drop-more zero [] x rest e = cc
drop-more zero (y ∷ xs) x rest e = cc
drop-more (suc k) [] x rest e = cc
drop-more (suc k) (y ∷ xs) x rest e = drop-more k xs x rest e

take-all : (k : ℕ) (xs : List Note) → drop k xs ≡ [] → take k xs ≡ xs
take-all zero [] e = refl
take-all zero (y ∷ xs) e = cc
take-all (suc k) [] e = refl
take-all (suc k) (y ∷ xs) e = ap (λ z. y ∷ z) (take-all k xs e)

get-next : (k : ℕ) (xs : List Note) (x : Note) (rest : List Note) → drop k xs ≡ x ∷ rest → slice_get xs k ≡ Some x
get-next zero [] x rest e = cc
get-next zero (y ∷ xs) x rest e = let head : y ≡ x = cc in ap Some head
get-next (suc k) [] x rest e = cc
get-next (suc k) (y ∷ xs) x rest e = get-next k xs x rest e

-- some first notes are queued, and the rest is left
pub record Goes (notes rest : List Note) (old new : Lines) : Type 0 where
  pub before : ℕ
  pub left : rest ≡ drop before notes
  pub queued : AreQueued (take before notes) old new

pub goes_none : (notes : List Note) (old : Lines) → Goes notes notes old old
goes_none notes old = record { before = 0; left = refl; queued = queued_none old }

pub goes_more : (notes all rest : List Note) (note : Note) (old mid new : Lines) → Goes notes all old mid → all ≡ note ∷ rest
    → IsChanged note.seat (option_map (with_waiting (item_of note.body)) (lane_of mid note.seat)) mid new → Goes notes rest old new
goes_more notes all rest note old mid new g e last =
    let here : drop g.before notes ≡ note ∷ rest = sym g.left ∙ e in
    record {
      before = suc g.before;
      left = sym (drop-more g.before notes note rest here);
      queued = subst (λ z. AreQueued z old new) (sym (take-more g.before notes note rest here)) (queued_last (take g.before notes) note old mid new g.queued last);
    }

pub goes_all : (notes rest : List Note) (old new : Lines) → Goes notes rest old new → rest ≡ [] → AreQueued notes old new
goes_all notes rest old new g e = subst (λ z. AreQueued z old new) (take-all g.before notes (sym g.left ∙ e)) g.queued

pub goes_until : (notes all rest : List Note) (note : Note) (why : MailError) (l : Line) (old mid : Lines) → Goes notes all old mid → all ≡ note ∷ rest
    → lane_of mid note.seat ≡ Some l → why ≡ why_not l → StopsAt notes old why mid
goes_until notes all rest note why l old mid g e there w =
    found (lane_of old note.seat) refl (sym (g.queued note.seat) ∙ there)
  where
    found : (o : Option Line) → lane_of old note.seat ≡ o → option_map (with_told (told_to note.seat (take g.before notes))) o ≡ Some l → StopsAt notes old why mid
    found None is h = cc
    found (Some old_line) is h =
        let same : with_told (told_to note.seat (take g.before notes)) old_line ≡ l = cc in
        record {
          before = g.before;
          note = note;
          next = get-next g.before notes note rest (sym g.left ∙ e);
          lane = old_line;
          is_open = is;
          refused = w ∙ ap why_not (sym same);
          queued = g.queued;
        }
