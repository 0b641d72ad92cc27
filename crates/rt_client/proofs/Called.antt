-- A seat's call: its receipt, its lane and its ring.
use Rattle.std.proofs.Common.{◌≡◌, ℕ, Bool, true, false, cond, ◌==◌, List, [], ◌∷◌, ◌++◌, length, take, refl, sym, ap, subst, ◌∙◌, append-nil, inl, inr, Option, Some, None, Ok, Err, Result, IfErr, unwrap_or, IsTrue}
use mathlib.Core.Bool.{true≢false}
use Rattle.std.specs.Option.{option_map, option_map_or}
use Rattle.rt_world.specs.declared.error.CoreError.{CoreError}
use Rattle.rt_world.specs.declared.report.Report.{Report}
use Rattle.rt_world.specs.declared.step.Step.{Step}
use Rattle.rt_world.specs.World.{World}
use Rattle.rt_world.specs.Refusals.{refusal, is_stale}
use Rattle.rt_world.specs.Answers.{step_by, step, done_report}
use Rattle.rt_sync.specs.Core.{Applies, refusal_in}
use Rattle.rt_mail.specs.declared.item.Item.{Item}
use Rattle.rt_mail.specs.declared.item.Item.TheVariants as item
use Rattle.rt_mail.specs.declared.item.Receipt.{Receipt}
use Rattle.rt_mail.specs.Lanes.{Line, Ring, with_items, signed_lane}
use Rattle.rt_world.specs.declared.step.Call.{Call}
use Rattle.rt_world.specs.declared.step.Call.TheVariants as call
use Rattle.rt_client.specs.declared.shared.Done.{Done}
use Rattle.rt_client.specs.declared.error.ClientError.{ClientError}
use Rattle.rt_client.specs.declared.error.ClientError.TheVariants as error
use Rattle.rt_client.specs.declared.error.ClientError.TheVariants.{NoMemory}
use Rattle.rt_client.specs.Seats.{told_to, receipt_with, given_by, receipt_of, does_close}
use Rattle.rt_client.specs.Lanes.{lane_of, with_told, HasRoom, signed_ring}
use Rattle.rt_client.specs.Shared.{Held, signed_by, lane_after}
use Rattle.rt_world.specs.Calls.{step_of}
use Rattle.rt_client.specs.Calls.{LacksMemory, HandsFirst, HandsSome, Called, RefusesCalled}
use Rattle.rt_client.specs.Calls.{Refuses as RefusesStep}
use Rattle.rt_client.specs.inside.Receipts.{gives_number, AreSigned}
use Rattle.rt_client.proofs.Slots.{Lines, at_seat}
use Rattle.rt_client.proofs.Steps.{done_is_due}

-- ---- receipts

pub receipt_is : (w : World) (seat : ℕ) (c : Call) → receipt_of w (step_of seat c) ≡ Some (seat, receipt_with (unwrap_or (given_by w (step_of seat c)) 0) c)
receipt_is w seat (call.Listen query) = refl
receipt_is w seat (call.Unlisten listener) = refl
receipt_is w seat (call.Write action) = refl
receipt_is w seat (call.OnDisconnect ending) = refl

not_stale : (w : World) (seat : ℕ) (c : Call) → is_stale w (step_of seat c) ≡ false
not_stale w seat (call.Listen query) = refl
not_stale w seat (call.Unlisten listener) = refl
not_stale w seat (call.Write action) = refl
not_stale w seat (call.OnDisconnect ending) = refl

pub stays_open : (n seat : ℕ) (c : Call) → does_close n (step_of seat c) ≡ false
stays_open n seat (call.Listen query) = refl
stays_open n seat (call.Unlisten listener) = refl
stays_open n seat (call.Write action) = refl
stays_open n seat (call.OnDisconnect ending) = refl

given_is : (o : Option CoreError) (b : Bool) (w : World) (s : Step) (report : Report) → b ≡ false → (step_by o b w s).1 ≡ Ok report → report.given ≡ given_by w s
given_is (Some e) b w s report fresh is = cc
given_is None true w s report fresh is = absurd (true≢false fresh)
given_is None false w s report fresh is = let same : done_report w s ≡ report = cc in sym (ap (λ (r : Report). r.given) same)

-- a call that makes a listener or a request is given a number
is_given : (w : World) (seat : ℕ) (c : Call) → IsTrue (gives_number c) → given_by w (step_of seat c) ≡ None → ⊥
is_given w seat (call.Listen query) makes e = cc
is_given w seat (call.Unlisten listener) makes e = absurd (true≢false (sym makes))
is_given w seat (call.Write action) makes e = cc
is_given w seat (call.OnDisconnect ending) makes e = cc

pub number_given : (old new : Held) (seat : ℕ) (had left : Ring) (c : Call) (done : Done) → IsTrue (gives_number c) → Called old seat had c done new left
    → done.given ≡ None → ⊥
number_given old new seat had left c done makes called none =
    let m = called.made in
    let s = step_of seat c in
    let given = given_is (refusal m.world s) (is_stale m.world s) m.world s m.report (not_stale m.world seat c) m.answer in
    is_given m.world seat c makes (sym given ∙ sym (ap (λ (d : Done). d.given) m.told) ∙ none)

-- the receipt that a call is answered with has the number that it is given
pub answered_with : (old new : Held) (seat : ℕ) (had left : Ring) (c : Call) (done : Done) → (called : Called old seat had c done new left)
    → called.receipt ≡ receipt_with (unwrap_or done.given 0) c
answered_with old new seat had left c done called =
    let m = called.made in
    let s = step_of seat c in
    let given = given_is (refusal m.world s) (is_stale m.world s) m.world s m.report (not_stale m.world seat c) m.answer in
    ap (λ o. option_map_or (λ (r : ℕ × Receipt). r.1) o called.receipt) (sym called.signed ∙ receipt_is m.world seat c)
    ∙ ap (λ g. receipt_with (unwrap_or g 0) c) (sym given ∙ sym (ap (λ (d : Done). d.given) m.told))

-- a core that answers with a report has made the world's step
pub done_core : (old new : Option World) (w : World) (s : Step) (report : Report) → old ≡ Some w → Applies old s (Ok report) new
    → ((step w s).1 ≡ Ok report) × (new ≡ Some (step w s).0)
done_core None new w s report is applies = cc
done_core (Some v) new w s report is (inl makes) =
    let same : v ≡ w = cc in
    (ap (λ v. (step v s).1) (sym same) ∙ sym makes.told, makes.world ∙ ap (λ v. Some (step v s).0) same)
done_core (Some v) new w s report is (inr lacks) = cc

-- ---- lanes

joined : (items : List Item) (r : Receipt) (b : Bool) (o : Option Line) → option_map (with_told items) (cond b (option_map (signed_lane r) o) o) ≡ option_map (λ l. with_told items (cond b (signed_lane r l) l)) o
joined items r true None = refl
joined items r false None = refl
joined items r true (Some l) = refl
joined items r false (Some l) = refl

-- signed and told, as the world's step leaves them
signed_after : (w : World) (seat : ℕ) (c : Call) (r : Receipt) (report : Report) (old new : Lines)
    → receipt_of w (step_of seat c) ≡ Some (seat, r) → AreSigned seat r report.notes old new
    → (n : ℕ) → lane_of new n ≡ lane_after n w (step_of seat c) (Ok report) (lane_of old n)
signed_after w seat c r report old new is told n =
    let items = told_to n report.notes in
    told.queued n
    ∙ ap (option_map (with_told items)) (told.signed n ∙ at_seat old seat n (option_map (signed_lane r)))
    ∙ joined items r (seat == n) (lane_of old n)
    ∙ ap (λ o. option_map (λ l. with_told items (signed_by n o l)) (lane_of old n)) (sym is)
    ∙ ap (λ b. cond b None (option_map (λ l. with_told items (signed_by n (receipt_of w (step_of seat c)) l)) (lane_of old n))) (sym (stays_open n seat c))

-- ---- rings

pub nothing_more : (ring : Ring) → ring ≡ with_items [] ring
nothing_more ring = λ i. record ring { items = sym (append-nil ring.items) i }

take_whole : (xs : List Item) → take (length xs) xs ≡ xs
take_whole [] = refl
take_whole (x ∷ xs) = ap (λ z. x ∷ z) (take_whole xs)

pub hands_none : (lane : Line) (r : Receipt) (ring left : Ring) → left ≡ ring → HandsFirst lane r ring left
hands_none lane r ring left e = record { count = 0; ring = e ∙ nothing_more ring }

pub hands_all : (lane : Line) (r : Receipt) (ring left : Ring) → left ≡ signed_ring r ring lane → HandsFirst lane r ring left
hands_all lane r ring left e =
    let all = lane.waiting ++ item.Receipt r ∷ [] in
    record { count = length all; ring = e ∙ ap (λ z. with_items z ring) (sym (take_whole all)) }

-- where there is room there is a lane
pub lane_with_room : (ring : Ring) (o : Option Line) → HasRoom ring o → (lane : Line) × (o ≡ Some lane)
lane_with_room ring None h = absurd h
lane_with_room ring (Some lane) h = (lane, refl)

pub ring_signed : (r : Receipt) (ring left : Ring) (o : Option Line) (lane : Line) → o ≡ Some lane → left ≡ option_map_or (signed_ring r ring) o ring → left ≡ signed_ring r ring lane
ring_signed r ring left o lane is e = e ∙ ap (λ z. option_map_or (signed_ring r ring) z ring) is

-- ---- the call

abbrev pub held_of : Option World → Lines → Held
held_of core lanes = record { core = core; lanes = lanes }

-- its receipt has the number that the step gives
pub receipt_made : (w : World) (seat : ℕ) (c : Call) (report : Report) (r : Receipt) → (step w (step_of seat c)).1 ≡ Ok report
    → r ≡ receipt_with (unwrap_or report.given 0) c → receipt_of w (step_of seat c) ≡ Some (seat, r)
receipt_made w seat c report r answer e =
    let given = given_is (refusal w (step_of seat c)) (is_stale w (step_of seat c)) w (step_of seat c) report (not_stale w seat c) answer in
    receipt_is w seat c ∙ ap (λ g. Some (seat, receipt_with (unwrap_or g 0) c)) (sym given) ∙ ap (λ r. Some (seat, r)) (sym e)

pub call_made : (old new : Option World) (lanes told : Lines) (w : World) (seat : ℕ) (c : Call) (report : Report) (r : Receipt) (ring left : Ring)
    → old ≡ Some w → Applies old (step_of seat c) (Ok report) new
    → r ≡ receipt_with (unwrap_or report.given 0) c → HasRoom ring (lane_of lanes seat)
    → AreSigned seat r report.notes lanes told → left ≡ option_map_or (signed_ring r ring) (lane_of lanes seat) ring
    → Called (held_of old lanes) seat ring c (record { outcome = report.outcome; given = report.given }) (held_of new told) left
call_made old new lanes told w seat c report r ring left is applies e has signed e_ring =
    let s = step_of seat c in
    let made = done_core old new w s report is applies in
    let receipt = receipt_made w seat c report r made.0 e in
    let found = lane_with_room ring (lane_of lanes seat) has in
    record {
      made = record {
        world = w;
        core = is;
        report = report;
        answer = made.0;
        told = refl;
        makes = record {
          world = made.1;
          lanes = λ n. signed_after w seat c r report lanes told receipt signed n ∙ ap (λ a. lane_after n w s a (lane_of lanes n)) (sym made.0);
        };
      };
      lane = found.0;
      is_open = found.1;
      receipt = r;
      signed = receipt;
      ring = ring_signed r ring left (lane_of lanes seat) found.0 found.1 e_ring;
    }

-- memory lacked behind the step and its receipt
pub call_gave_up : (old new : Option World) (lanes : Lines) (w : World) (seat : ℕ) (c : Call) (report : Report) (r : Receipt) (ring left : Ring)
    → old ≡ Some w → Applies old (step_of seat c) (Ok report) new → r ≡ receipt_with (unwrap_or report.given 0) c
    → HasRoom ring (lane_of lanes seat) → left ≡ option_map_or (signed_ring r ring) (lane_of lanes seat) ring
    → LacksMemory (held_of old lanes) (step_of seat c) × HandsSome (held_of old lanes) seat ring c left
call_gave_up old new lanes w seat c report r ring left is applies e has e_ring =
    let found = lane_with_room ring (lane_of lanes seat) has in (
      record {
        world = w;
        core = is;
        not_refused = (done_is_due old new w (step_of seat c) report is applies).0;
        not_stale = not_stale w seat c;
      },
      record {
        world = w;
        core = is;
        lane = found.0;
        is_open = found.1;
        receipt = r;
        signed = receipt_made w seat c report r (done_core old new w (step_of seat c) report is applies).0 e;
        hands = hands_all found.0 r ring left (ring_signed r ring left (lane_of lanes seat) found.0 found.1 e_ring);
      },
    )

-- where the call is not made
pub call_not_made : (old : Held) (w : World) (seat : ℕ) (c : Call) (ring : Ring) → old.core ≡ Some w → HasRoom ring (lane_of old.lanes seat) → HandsSome old seat ring c ring
call_not_made old w seat c ring is has =
    let found = lane_with_room ring (lane_of old.lanes seat) has in
    let r = receipt_with (unwrap_or (given_by w (step_of seat c)) 0) c in
    record {
      world = w;
      core = is;
      lane = found.0;
      is_open = found.1;
      receipt = r;
      signed = receipt_is w seat c;
      hands = hands_none found.0 r ring ring refl;
    }

-- a refusal of its step, where the ring stays, is one of the call
pub called_refuses : (e : ClientError) (old new : Held) (w : World) (seat : ℕ) (c : Call) (ring : Ring) → old.core ≡ Some w → HasRoom ring (lane_of old.lanes seat)
    → RefusesStep old (step_of seat c) e new → RefusesCalled old seat ring c e new ring
called_refuses error.Failed old new w seat c ring is has r = r
called_refuses error.WrongSeat old new w seat c ring is has r = r
called_refuses error.MailboxFull old new w seat c ring is has r = r
called_refuses error.TooManySeats old new w seat c ring is has r = r
called_refuses (error.Core why) old new w seat c ring is has r = (r.0, r.1, refl)
called_refuses error.NoMemory old new w seat c ring is has r = (r, call_not_made old w seat c ring is has)

-- a core that is asked in vain why it refuses a call
pub asked_due : (old : Held) (w : World) (seat : ℕ) (c : Call) → old.core ≡ Some w → None ≡ refusal_in old.core (step_of seat c) → LacksMemory old (step_of seat c)
asked_due old w seat c is none = record {
  world = w;
  core = is;
  not_refused = sym (none ∙ ap (λ o. refusal_in o (step_of seat c)) is);
  not_stale = not_stale w seat c;
}

-- what is said of want of memory
pub if_no_memory : {X : Type 0} (r : Result X ClientError) (P : ClientError → Type 0) → r ≡ Err NoMemory → P NoMemory → IfErr r P
if_no_memory r P e h = subst (λ z. IfErr z P) (sym e) h
