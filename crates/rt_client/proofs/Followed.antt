-- A mirror follows the one that a lane has.
use Rattle.std.proofs.Common.{◌≡◌, ℕ, Bool, true, false, cond, ◌==◌, [], ◌∷◌, ◌++◌, take, refl, sym, ap, subst, ◌∙◌, Option, Some, None, Ok}
use Rattle.std.specs.Cmp.{nat_eq_equiv}
use Rattle.std.specs.Option.{option_map}
use Rattle.std.proofs.lemmas.List.Sums.{fold-append}
use Rattle.rt_world.specs.declared.report.Report.{Report}
use Rattle.rt_world.specs.World.{World}
use Rattle.rt_mail.specs.declared.item.Item.TheVariants as item
use Rattle.rt_mail.specs.declared.item.Receipt.{Receipt}
use Rattle.rt_mail.specs.Mailbox.{Known, taken, known_of}
use Rattle.rt_mail.specs.Lanes.{Line, signed_lane}
use Rattle.rt_world.specs.declared.step.Call.{Call}
use Rattle.rt_world.specs.declared.step.Call.TheVariants as call
use Rattle.rt_client.specs.Seats.{reflection, receipt_of, told_to, does_close}
use Rattle.rt_client.specs.Lanes.{lane_of, due, settled, with_told}
use Rattle.rt_client.specs.Shared.{Held, lane_after, signed_by, foreseen}
use Rattle.rt_world.specs.Calls.{step_of}
use Rattle.rt_client.specs.Calls.{Locked, Seated, IsOpen}
use Rattle.rt_client.specs.Delivery.{IsMirrored}
use Rattle.rt_client.specs.laws.Following.{FollowsSettling, FollowsCalls, KnowsAll}
use Rattle.rt_client.proofs.Called.{stays_open}
use Rattle.rt_client.proofs.Seated.{own_is}

-- ---- an open seat's lane

pub there : (locked : Locked) (held : Held) (seat : Seated) (lane : Line) → seat.client ≡ locked.number → IsOpen locked held seat lane
    → lane_of held.lanes seat.number ≡ Some lane
there locked held seat lane own o = own_is locked.number seat.client (lane_of held.lanes seat.number) own ∙ o.own

pub opened : (locked : Locked) (held : Held) (seat : Seated) (lane : Line) → locked.held ≡ Some held → seat.client ≡ locked.number
    → lane_of held.lanes seat.number ≡ Some lane → IsOpen locked held seat lane
opened locked held seat lane e own is = record {
  held = e;
  own = sym (own_is locked.number seat.client (lane_of held.lanes seat.number) own) ∙ is;
}

-- the one lane
pub same_lane : (locked : Locked) (one held : Held) (seat : Seated) (lane there_is : Line) → seat.client ≡ locked.number → IsOpen locked one seat lane
    → locked.held ≡ Some held → lane_of held.lanes seat.number ≡ Some there_is → lane ≡ there_is
same_lane locked one held seat lane there_is own o e is =
    let same : one ≡ held = cc (o.held, e) in
    let at : lane_of held.lanes seat.number ≡ Some lane = subst (λ h. lane_of h.lanes seat.number ≡ Some lane) same (there locked one seat lane own o) in
    cc (at, is)

pub here : {X : Type 0} (n : ℕ) (a b : X) → cond (n == n) a b ≡ a
here n a b = ap (λ t. cond t a b) (nat_eq_equiv.refl n)

-- what the mirror that takes the ring's items knows
pub takes : (mid left : Seated) (had has : Known) (count : ℕ) → IsMirrored mid (Some had) count left (Some has) → has ≡ known_of had mid.ring.items
takes mid left had has count m =
    let works = m.takes.works in
    let knows = m.takes.knows in
    let same : had ≡ m.takes.known = cc in
    let is : has ≡ known_of m.takes.known mid.ring.items = cc in
    is ∙ ap (λ k. known_of k mid.ring.items) (sym same)

-- ---- a seat that settles

pub follows_settling : FollowsSettling
follows_settling old new seat mid left had has count k h m =
    let lane = h.hands.lane in
    let n = seat.number in
    let due_now = take (due seat.ring lane) lane.waiting in
    let same : k.lane ≡ lane = same_lane old k.before h.before seat k.lane lane h.own k.is_open h.held h.hands.is_open in
    let mirror : lane.mirror ≡ Some had = ap (λ (l : Line). l.mirror) (sym same) ∙ k.mirror in
    let now : lane_of h.after.lanes n ≡ Some (settled seat.ring lane) = h.hands.lanes n ∙ here n (Some (settled seat.ring lane)) (lane_of h.before.lanes n) in
    let chair : left ≡ record (record seat { ring = h.ring }) { ring = m.ring } = m.seat ∙ ap (λ (s : Seated). record s { ring = m.ring }) h.seated in
    let ring : mid.ring.items ≡ due_now =
    ap (λ (s : Seated). s.ring.items) h.seated ∙ ap (λ r. r.items) h.hands.ring ∙ ap (λ xs. xs ++ due_now) k.empty in
    let own : left.client ≡ new.number = ap (λ (s : Seated). s.client) chair ∙ h.own ∙ sym (ap (λ (l : Locked). l.number) h.locked) in
    record {
      before = h.after;
      lane = settled seat.ring lane;
      is_open = opened new h.after left (settled seat.ring lane) (ap (λ (l : Locked). l.held) h.locked) own (ap (λ (s : Seated). lane_of h.after.lanes s.number) chair ∙ now);
      empty = ap (λ (s : Seated). s.ring.items) m.seat ∙ ap (λ r. r.items) m.takes.ring;
      mirror =
          ap (option_map (λ a. known_of a due_now)) mirror
          ∙ ap (λ xs. Some (known_of had xs)) (sym ring)
          ∙ ap Some (sym (takes mid left had has count m));
    }

-- ---- a seat's call

-- the lane after it
pub lane_called : (w : World) (seat : ℕ) (c : Call) (r : Receipt) (report : Report) (lane : Line) → receipt_of w (step_of seat c) ≡ Some (seat, r)
    → lane_after seat w (step_of seat c) (Ok report) (Some lane) ≡ Some (with_told (told_to seat report.notes) (signed_lane r lane))
lane_called w seat c r report lane is =
    let notes = told_to seat report.notes in
    ap (λ b. cond b None (Some (with_told notes (signed_by seat (receipt_of w (step_of seat c)) lane)))) (stays_open seat seat c)
    ∙ ap (λ o. Some (with_told notes (signed_by seat o lane))) is
    ∙ ap (λ l. Some (with_told notes l)) (here seat (signed_lane r lane) lane)

pub follows_calls : FollowsCalls
follows_calls old new seat mid left c done had has count k h m =
    let called = h.called in
    let made = called.made in
    let lane = called.lane in
    let n = seat.number in
    let r = called.receipt in
    let w = made.world in
    let handed = lane.waiting ++ item.Receipt r ∷ [] in
    let last = with_told (told_to n made.report.notes) (signed_lane r lane) in
    let same : k.lane ≡ lane = same_lane old k.before h.before seat k.lane lane h.own k.is_open h.held called.is_open in
    let mirror : lane.mirror ≡ Some had = ap (λ (l : Line). l.mirror) (sym same) ∙ k.mirror in
    let now : lane_of h.after.lanes n ≡ Some last =
    made.makes.lanes n
    ∙ ap (λ a. lane_after n w (step_of n c) a (lane_of h.before.lanes n)) made.answer
    ∙ ap (λ o. lane_after n w (step_of n c) (Ok made.report) o) called.is_open
    ∙ lane_called w n c r made.report lane called.signed in
    let chair : left ≡ record (record seat { ring = h.ring }) { ring = m.ring } = m.seat ∙ ap (λ (s : Seated). record s { ring = m.ring }) h.seated in
    let ring : mid.ring.items ≡ handed =
    ap (λ (s : Seated). s.ring.items) h.seated ∙ ap (λ r. r.items) called.ring ∙ ap (λ xs. xs ++ handed) k.empty in
    let own : left.client ≡ new.number = ap (λ (s : Seated). s.client) chair ∙ h.own ∙ sym (ap (λ (l : Locked). l.number) h.locked) in
    record {
      before = h.after;
      lane = last;
      is_open = opened new h.after left last (ap (λ (l : Locked). l.held) h.locked) own (ap (λ (s : Seated). lane_of h.after.lanes s.number) chair ∙ now);
      empty = ap (λ (s : Seated). s.ring.items) m.seat ∙ ap (λ r. r.items) m.takes.ring;
      mirror =
          ap (option_map (λ a. taken (known_of a lane.waiting) (item.Receipt r))) mirror
          ∙ ap Some (sym (fold-append taken had lane.waiting (item.Receipt r ∷ [])))
          ∙ ap (λ xs. Some (known_of had xs)) (sym ring)
          ∙ ap Some (sym (takes mid left had has count m));
    }

-- ---- nothing waits

pub knows_all : KnowsAll
knows_all locked seat w h lane known kept core o none mirror =
    let world : kept.world ≡ w = cc (kept.core, core) in
    let at : lane_of h.lanes seat.number ≡ Some lane = open_at (seat.client == locked.number) (lane_of h.lanes seat.number) o.own in
    let told : foreseen lane ≡ Some (reflection kept.world seat.number) = kept.told seat.number lane at in
    let whole : foreseen lane ≡ Some known = ap (λ xs. option_map (λ m. known_of m xs) lane.mirror) none ∙ ap (option_map (λ m. known_of m [])) mirror in
    let is : known ≡ reflection kept.world seat.number = cc (told, whole) in
    is ∙ ap (λ v. reflection v seat.number) world
  where
    open_at : (b : Bool) (o : Option Line) → cond b o None ≡ Some lane → o ≡ Some lane
    open_at true o e = e
    open_at false o e = absurd (cc)
