-- No receipt waits, and so each call that is made is answered by one.
use Rattle.std.proofs.Common.{◌≡◌, ℕ, ◌+◌, zero, suc, Bool, true, false, cond, ◌==◌, List, [], ◌∷◌, ◌++◌, length, take, drop, refl, sym, ap, subst, ◌∙◌, arith, append-nil, length-append, Option, Some, None, Ok, Err, unwrap_or}
use Rattle.std.specs.List.{cons_option}
use Rattle.std.specs.Option.{IfSome, option_map}
use Rattle.std.proofs.lemmas.List.Elements.{filter_map-append}
use Rattle.rt_world.specs.declared.report.Body.{Body}
use Rattle.rt_world.specs.declared.report.Body.TheVariants as body
use Rattle.rt_world.specs.declared.report.Note.{Note}
use Rattle.rt_world.specs.declared.step.Call.{Call}
use Rattle.rt_world.specs.declared.step.Step.{Step}
use Rattle.rt_world.specs.World.{World}
use Rattle.rt_world.specs.Answers.{Answer}
use Rattle.rt_mail.specs.declared.item.Item.{Item}
use Rattle.rt_mail.specs.declared.item.Item.TheVariants as item
use Rattle.rt_mail.specs.declared.item.Receipt.{Receipt}
use Rattle.rt_mail.specs.Lanes.{Line, Ring, without_first, signed_lane}
use Rattle.rt_client.specs.declared.shared.Done.{Done}
use Rattle.rt_client.specs.Seats.{item_of, told_to, receipt_of, receipt_in, receipts_in, receipt_with, does_close}
use Rattle.rt_client.specs.Lanes.{new_lane, lane_of, with_told, due}
use Rattle.rt_client.specs.Shared.{Held, IsWhole, NoReceiptWaits, signed_by, lane_after}
use Rattle.rt_client.specs.Calls.{Locked, Seated, Called, Keeps, MakesCall}
use Rattle.rt_client.specs.Settling.{Settles, Comes}
use Rattle.rt_client.specs.Waiting.{IsMade}
use Rattle.rt_client.specs.laws.Answering.{AnswersOnce, SettlesUnasked, ComesUnasked, TwiceIsNotOnce}
use Rattle.rt_client.proofs.Called.{answered_with}
use Rattle.rt_client.proofs.PutBy.{lane_there}
use Rattle.rt_client.proofs.Slots.{Lines}

-- ---- items

-- receipts of two lists, where those of one are none
none_before : (xs ys : List Item) → receipts_in xs ≡ [] → receipts_in (xs ++ ys) ≡ receipts_in ys
none_before xs ys none = filter_map-append receipt_in xs ys ∙ ap (λ rs. rs ++ receipts_in ys) none

note_is_none : (b : Body) → receipt_in (item_of b) ≡ None
note_is_none (body.Settled id why) = refl
note_is_none (body.Cancelled n why) = refl
note_is_none (body.Batch batch) = refl

-- notes are no receipts
told_none : (seat : ℕ) (notes : List Note) → receipts_in (told_to seat notes) ≡ []
told_none seat [] = refl
told_none seat (n ∷ notes) =
    elim (n.seat == seat) as (λ b. receipts_in (cons_option (cond b (Some (item_of n.body)) None) (told_to seat notes)) ≡ []) [
      | true ↦ ap (λ o. cons_option o (receipts_in (told_to seat notes))) (note_is_none n.body) ∙ told_none seat notes
      | false ↦ told_none seat notes
    ]

rest_none : (x : Item) (xs : List Item) → receipts_in (x ∷ xs) ≡ [] → receipts_in xs ≡ []
rest_none x xs = elim (receipt_in x) as (λ o. cons_option o (receipts_in xs) ≡ [] → receipts_in xs ≡ []) [ Some r ↦ λ e. cc | None ↦ λ e. e ]

drop_none : (k : ℕ) (xs : List Item) → receipts_in xs ≡ [] → receipts_in (drop k xs) ≡ []
drop_none zero xs none = none
drop_none (suc k) [] none = refl
drop_none (suc k) (x ∷ xs) none = drop_none k xs (rest_none x xs none)

first_none : (x : Item) (xs : List Item) → receipts_in (x ∷ xs) ≡ [] → receipt_in x ≡ None
first_none x xs = elim (receipt_in x) as (λ o. cons_option o (receipts_in xs) ≡ [] → o ≡ None) [ Some r ↦ λ e. cc | None ↦ λ e. refl ]

take_none : (k : ℕ) (xs : List Item) → receipts_in xs ≡ [] → receipts_in (take k xs) ≡ []
take_none zero xs none = refl
take_none (suc k) [] none = refl
take_none (suc k) (x ∷ xs) none = ap (λ o. cons_option o (receipts_in (take k xs))) (first_none x xs none) ∙ take_none k xs (rest_none x xs none)

-- ---- lanes

signed_none : (seat : ℕ) (r : Option (ℕ × Receipt)) (l : Line) → receipts_in l.waiting ≡ [] → receipts_in ((signed_by seat r l).waiting) ≡ []
signed_none seat None l none = none
signed_none seat (Some r) l none =
    elim (r.0 == seat) as (λ b. receipts_in ((cond b (signed_lane r.1 l) l).waiting) ≡ []) [ true ↦ refl | false ↦ none ]

lane_none : (seat : ℕ) (w : World) (s : Step) (answer : Answer) (old : Option Line) (lane : Line) → ((l : Line) → old ≡ Some l → receipts_in l.waiting ≡ [])
    → lane_after seat w s answer old ≡ Some lane → receipts_in lane.waiting ≡ []
lane_none seat w s (Err e) old lane before is = before lane is
lane_none seat w s (Ok report) None lane before is = elim (does_close seat s) as (λ b. cond b None None ≡ Some lane → receipts_in lane.waiting ≡ []) [ true ↦ λ e. cc | false ↦ λ e. cc ] is
lane_none seat w s (Ok report) (Some l) lane before is =
    let signed = signed_by seat (receipt_of w s) l in
    elim (does_close seat s) as (λ b. cond b None (Some (with_told (told_to seat report.notes) signed)) ≡ Some lane → receipts_in lane.waiting ≡ []) [
      | true ↦ λ e. cc
      | false ↦ λ e.
          let there : with_told (told_to seat report.notes) signed ≡ lane = cc in
          ap (λ (l : Line). receipts_in l.waiting) (sym there)
          ∙ none_before signed.waiting (told_to seat report.notes) (signed_none seat (receipt_of w s) l (before l refl))
          ∙ told_none seat report.notes
    ] is

-- after a step
pub step_answered : (w : World) (s : Step) (answer : Answer) (old new : Lines) → NoReceiptWaits old
    → ((seat : ℕ) → lane_of new seat ≡ lane_after seat w s answer (lane_of old seat)) → NoReceiptWaits new
step_answered w s answer old new before lanes seat lane is = lane_none seat w s answer (lane_of old seat) lane (before seat) (sym (lanes seat) ∙ is)

-- where one lane is changed, and no receipt waits in it
pub changed_answered : (old new : Lines) (seat : ℕ) (line : Line) → receipts_in line.waiting ≡ [] → NoReceiptWaits old
    → ((n : ℕ) → lane_of new n ≡ cond (seat == n) (Some line) (lane_of old n)) → NoReceiptWaits new
changed_answered old new seat line none before changed n lane is = by (seat == n) (sym (changed n) ∙ is)
  where
    by : (b : Bool) → cond b (Some line) (lane_of old n) ≡ Some lane → receipts_in lane.waiting ≡ []
    by true e = let same : line ≡ lane = cc in ap (λ (l : Line). receipts_in l.waiting) (sym same) ∙ none
    by false e = before n lane e

-- where the lane hands over some
pub handed_none : (k : ℕ) (l : Line) → receipts_in l.waiting ≡ [] → receipts_in ((without_first k l).waiting) ≡ []
handed_none k l none = drop_none k l.waiting none

-- ---- calls

-- what is held keeps
whole_of : (locked : Locked) (h : Held) → Keeps locked → locked.held ≡ Some h → IsWhole h
whole_of locked h keeps is = subst (λ o. IfSome o IsWhole) is keeps

pub answers_once : AnswersOnce
answers_once old new seat left c done keeps m =
    let called = m.called in
    let none = (whole_of old m.before keeps m.held).answered seat.number called.lane called.is_open in
    let own = item.Receipt called.receipt ∷ [] in
    ap (λ (s : Seated). receipts_in s.ring.items) m.seated
    ∙ ap (λ (r : Ring). receipts_in r.items) called.ring
    ∙ filter_map-append receipt_in seat.ring.items (called.lane.waiting ++ own)
    ∙ ap (λ rs. receipts_in seat.ring.items ++ rs) (none_before called.lane.waiting own none)
    ∙ ap (λ r. receipts_in seat.ring.items ++ r ∷ []) (answered_with m.before m.after seat.number seat.ring m.ring c done called)

pub settles_unasked : SettlesUnasked
settles_unasked old new seat left keeps s =
    let lane = s.hands.lane in
    let k = due seat.ring lane in
    let none = (whole_of old s.before keeps s.held).answered seat.number lane s.hands.is_open in
    ap (λ (s : Seated). receipts_in s.ring.items) s.seated
    ∙ ap (λ (r : Ring). receipts_in r.items) s.hands.ring
    ∙ filter_map-append receipt_in seat.ring.items (take k lane.waiting)
    ∙ ap (λ rs. receipts_in seat.ring.items ++ rs) (take_none k lane.waiting none)
    ∙ append-nil (receipts_in seat.ring.items)

pub comes_unasked : ComesUnasked
comes_unasked zero seat came none = ap receipts_in none
comes_unasked (suc n) seat came c =
    let h = c.4 in
    let waits = (whole_of h.locked h.before h.keeps h.is_open.held).answered seat.number h.lane (lane_there h.locked h.before seat h.lane h.is_open) in
    ap receipts_in c.2
    ∙ none_before c.0 c.1 (comes_unasked n seat c.0 c.3)
    ∙ ap receipts_in h.first ∙ take_none h.count h.lane.waiting waits

-- how many receipts there are
one_more : (seat left : Seated) (c : Call) → IsMade seat c left → length (receipts_in left.ring.items) ≡ length (receipts_in seat.ring.items) + 1
one_more seat left c m =
    ap length (answers_once m.old m.new seat left c m.done m.gave m.made)
    ∙ length-append (receipts_in seat.ring.items) (receipt_with (unwrap_or m.done.given 0) c ∷ [])

pub twice_is_not_once : TwiceIsNotOnce
twice_is_not_once seat between left first second c one two once =
    let a = one_more seat between first one in
    let b = one_more between left second two in
    let d = one_more seat left c once in
    omega (arith, a, b, d)
