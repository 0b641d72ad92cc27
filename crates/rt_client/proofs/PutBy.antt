-- A mirror that takes just what is put into a ring follows the one that a lane has.
use Rattle.std.proofs.Common.{◌≡◌, ℕ, Bool, true, false, cond, ◌==◌, List, [], ◌∷◌, ◌++◌, take, drop, refl, sym, ap, subst, ◌∙◌, Option, Some, None, Ok, unwrap_or}
use Rattle.std.specs.Option.{option_map, option_map_or}
use Rattle.std.proofs.lemmas.List.Sums.{fold-append}
use Rattle.rt_world.specs.declared.step.Step.{Step}
use Rattle.rt_world.specs.declared.report.Report.{Report}
use Rattle.rt_world.specs.World.{World}
use Rattle.rt_world.specs.Calls.{step_of}
use Rattle.rt_mail.specs.declared.item.Item.TheVariants as item
use Rattle.rt_mail.specs.declared.item.Receipt.{Receipt}
use Rattle.rt_mail.specs.Mailbox.{taken, known_of}
use Rattle.rt_mail.specs.Lanes.{Line, signed_lane}
use Rattle.rt_world.specs.declared.step.Call.{Call}
use Rattle.rt_client.specs.Seats.{call_of, receipt_with, given_by, receipt_of, told_to, caller_of, does_close}
use Rattle.rt_client.specs.Lanes.{lane_of, due, settled, with_told}
use Rattle.rt_client.specs.Shared.{Held, lane_after, signed_by}
use Rattle.rt_client.specs.Calls.{Locked, Seated, IsOpen}
use Rattle.rt_client.specs.laws.Following.{FollowsWhatSettles, FollowsWhatIsCalled, FollowsTheConnection, FollowsAnothersCall, FollowsAnothersSettling}
use Rattle.rt_client.proofs.Called.{stays_open}
use Rattle.rt_client.proofs.Followed.{opened, same_lane, here, lane_called}
use Rattle.rt_client.proofs.Numbers.{other_number}

-- what stands behind the same is the same
pub same_rest : {X : Type 0} (xs ys zs : List X) → xs ++ ys ≡ xs ++ zs → ys ≡ zs
same_rest [] ys zs e = e
same_rest (x ∷ xs) ys zs e = same_rest xs ys zs (ap (drop 1) e)

-- ---- the seat's own

pub settles_put : FollowsWhatSettles
settles_put old new seat left known items k h put =
    let lane = h.hands.lane in
    let n = seat.number in
    let due_now = take (due seat.ring lane) lane.waiting in
    let same : k.lane ≡ lane = same_lane old k.before h.before seat k.lane lane h.own k.is_open h.held h.hands.is_open in
    let mirror : lane.mirror ≡ Some known = ap (λ (l : Line). l.mirror) (sym same) ∙ k.mirror in
    let now : lane_of h.after.lanes n ≡ Some (settled seat.ring lane) = h.hands.lanes n ∙ here n (Some (settled seat.ring lane)) (lane_of h.before.lanes n) in
    let ring : left.ring.items ≡ seat.ring.items ++ due_now = ap (λ (s : Seated). s.ring.items) h.seated ∙ ap (λ r. r.items) h.hands.ring in
    let all : items ≡ due_now = same_rest seat.ring.items items due_now (sym put ∙ ring) in
    let own : left.client ≡ new.number = ap (λ (s : Seated). s.client) h.seated ∙ h.own ∙ sym (ap (λ (l : Locked). l.number) h.locked) in
    record {
      before = h.after;
      lane = settled seat.ring lane;
      is_open = opened new h.after left (settled seat.ring lane) (ap (λ (l : Locked). l.held) h.locked) own (ap (λ (s : Seated). lane_of h.after.lanes s.number) h.seated ∙ now);
      mirror = ap (option_map (λ a. known_of a due_now)) mirror ∙ ap (λ xs. Some (known_of known xs)) (sym all);
    }

pub called_put : FollowsWhatIsCalled
called_put old new seat left c done known items k h put =
    let called = h.called in
    let made = called.made in
    let lane = called.lane in
    let n = seat.number in
    let r = called.receipt in
    let w = made.world in
    let handed = lane.waiting ++ item.Receipt r ∷ [] in
    let last = with_told (told_to n made.report.notes) (signed_lane r lane) in
    let same : k.lane ≡ lane = same_lane old k.before h.before seat k.lane lane h.own k.is_open h.held called.is_open in
    let mirror : lane.mirror ≡ Some known = ap (λ (l : Line). l.mirror) (sym same) ∙ k.mirror in
    let now : lane_of h.after.lanes n ≡ Some last =
    made.makes.lanes n
    ∙ ap (λ a. lane_after n w (step_of n c) a (lane_of h.before.lanes n)) made.answer
    ∙ ap (λ o. lane_after n w (step_of n c) (Ok made.report) o) called.is_open
    ∙ lane_called w n c r made.report lane called.signed in
    let ring : left.ring.items ≡ seat.ring.items ++ handed = ap (λ (s : Seated). s.ring.items) h.seated ∙ ap (λ r. r.items) called.ring in
    let all : items ≡ handed = same_rest seat.ring.items items handed (sym put ∙ ring) in
    let own : left.client ≡ new.number = ap (λ (s : Seated). s.client) h.seated ∙ h.own ∙ sym (ap (λ (l : Locked). l.number) h.locked) in
    record {
      before = h.after;
      lane = last;
      is_open = opened new h.after left last (ap (λ (l : Locked). l.held) h.locked) own (ap (λ (s : Seated). lane_of h.after.lanes s.number) h.seated ∙ now);
      mirror =
          ap (option_map (λ a. taken (known_of a lane.waiting) (item.Receipt r))) mirror
          ∙ ap Some (sym (fold-append taken known lane.waiting (item.Receipt r ∷ [])))
          ∙ ap (λ xs. Some (known_of known xs)) (sym all);
    }

-- ---- what others do

-- a lane is open by its client's number, whatever is held
by_number : (b : Bool) (o : Option Line) (lane : Line) → cond b o None ≡ Some lane → (b ≡ true) × (o ≡ Some lane)
by_number true o lane e = (refl, e)
by_number false o lane e = absurd (cc)

pub lane_there : (locked : Locked) (held : Held) (seat : Seated) (lane : Line) → IsOpen locked held seat lane → lane_of held.lanes seat.number ≡ Some lane
lane_there locked held seat lane o = (by_number (seat.client == locked.number) (lane_of held.lanes seat.number) lane o.own).1

pub open_again : (old new : Locked) (held after : Held) (seat : Seated) (lane left : Line) → IsOpen old held seat lane → new.number ≡ old.number → new.held ≡ Some after
    → lane_of after.lanes seat.number ≡ Some left → IsOpen new after seat left
open_again old new held after seat lane left o same is now =
    let owns : (seat.client == old.number) ≡ true = (by_number (seat.client == old.number) (lane_of held.lanes seat.number) lane o.own).0 in
    record {
      held = is;
      own =
          ap (λ n. cond (seat.client == n) (lane_of after.lanes seat.number) None) same
          ∙ ap (λ b. cond b (lane_of after.lanes seat.number) None) owns
          ∙ now;
    }

-- a step that is no seat's call has no receipt
pub no_receipt : (w : World) (s : Step) → caller_of s ≡ None → receipt_of w s ≡ None
no_receipt w s none = by (call_of s) none
  where
    by : (o : Option (ℕ × Call)) → option_map (λ c. c.0) o ≡ None → option_map {U = ℕ × Receipt} (λ c. (c.0, receipt_with (unwrap_or (given_by w s) 0) c.1)) o ≡ None
    by None e = refl
    by (Some c) e = absurd (cc)

-- a lane that is told notes alone
pub lane_told : (n : ℕ) (w : World) (s : Step) (report : Report) (lane : Line) → does_close n s ≡ false → signed_by n (receipt_of w s) lane ≡ lane
    → lane_after n w s (Ok report) (Some lane) ≡ Some (with_told (told_to n report.notes) lane)
lane_told n w s report lane stays unsigned =
    let notes = told_to n report.notes in
    ap (λ b. cond b None (Some (with_told notes (signed_by n (receipt_of w s) lane)))) stays ∙ ap (λ l. Some (with_told notes l)) unsigned

-- the lane that is held is the one that is known
pub held_lane : (old : Locked) (one before : Held) (seat : Seated) (lane : Line) → IsOpen old one seat lane → old.held ≡ Some before
    → lane_of before.lanes seat.number ≡ Some lane
held_lane old one before seat lane o held =
    let same : one ≡ before = cc (o.held, held) in
    subst (λ h. lane_of h.lanes seat.number ≡ Some lane) same (lane_there old one seat lane o)

pub connection_follows : FollowsTheConnection
connection_follows old new seat s done known no_call no_end k m =
    let n = seat.number in
    let made = m.made in
    let w = made.world in
    let lane = k.lane in
    let at : lane_of m.before.lanes n ≡ Some lane = held_lane old k.before m.before seat lane k.is_open m.held in
    let last = with_told (told_to n made.report.notes) lane in
    let stays : does_close n s ≡ false = ap (λ o. option_map_or (λ m. m == n) o false) no_end in
    let unsigned : signed_by n (receipt_of w s) lane ≡ lane = ap (λ o. signed_by n o lane) (no_receipt w s no_call) in
    let now : lane_of m.after.lanes n ≡ Some last =
    made.makes.lanes n
    ∙ ap (λ a. lane_after n w s a (lane_of m.before.lanes n)) made.answer
    ∙ ap (λ o. lane_after n w s (Ok made.report) o) at
    ∙ lane_told n w s made.report lane stays unsigned in
    record {
      before = m.after;
      lane = last;
      is_open = open_again old new k.before m.after seat lane last k.is_open (ap (λ (l : Locked). l.number) m.left) (ap (λ (l : Locked). l.held) m.left) now;
      mirror = k.mirror;
    }

pub other_called : FollowsAnothersCall
other_called old new seat other left c done known apart k h =
    let n = seat.number in
    let made = h.called.made in
    let w = made.world in
    let s = step_of other.number c in
    let lane = k.lane in
    let at : lane_of h.before.lanes n ≡ Some lane = held_lane old k.before h.before seat lane k.is_open h.held in
    let last = with_told (told_to n made.report.notes) lane in
    let unsigned : signed_by n (receipt_of w s) lane ≡ lane =
    ap (λ o. signed_by n o lane) h.called.signed ∙ ap (λ b. cond b (signed_lane h.called.receipt lane) lane) (other_number other.number n apart) in
    let now : lane_of h.after.lanes n ≡ Some last =
    made.makes.lanes n
    ∙ ap (λ a. lane_after n w s a (lane_of h.before.lanes n)) made.answer
    ∙ ap (λ o. lane_after n w s (Ok made.report) o) at
    ∙ lane_told n w s made.report lane (stays_open n other.number c) unsigned in
    record {
      before = h.after;
      lane = last;
      is_open = open_again old new k.before h.after seat lane last k.is_open (ap (λ (l : Locked). l.number) h.locked) (ap (λ (l : Locked). l.held) h.locked) now;
      mirror = k.mirror;
    }

pub other_settles : FollowsAnothersSettling
other_settles old new seat other left known apart k h =
    let n = seat.number in
    let lane = k.lane in
    let at : lane_of h.before.lanes n ≡ Some lane = held_lane old k.before h.before seat lane k.is_open h.held in
    let now : lane_of h.after.lanes n ≡ Some lane =
    h.hands.lanes n
    ∙ ap (λ b. cond b (Some (settled other.ring h.hands.lane)) (lane_of h.before.lanes n)) (other_number other.number n apart)
    ∙ at in
    record {
      before = h.after;
      lane = lane;
      is_open = open_again old new k.before h.after seat lane lane k.is_open (ap (λ (l : Locked). l.number) h.locked) (ap (λ (l : Locked). l.held) h.locked) now;
      mirror = k.mirror;
    }
