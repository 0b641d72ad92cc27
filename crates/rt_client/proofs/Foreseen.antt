-- Snapshots that take what is handed over to their seat foresee what the core shows.
use Rattle.std.proofs.Common.{◌≡◌, ℕ, zero, suc, ◌≤◌, Bool, true, false, cond, ◌==◌, List, [], ◌∷◌, ◌++◌, map, take, drop, replicate, refl, sym, ap, subst, ◌∙◌, arith, IfSome, Some, None, Ok}
use Rattle.std.specs.Cmp.{nat_eq_equiv}
use Rattle.std.specs.List.{filter, find, All}
use Rattle.std.specs.Map.{lookup}
use Rattle.std.specs.Option.{option_map, option_map_or}
use Rattle.std.specs.Ordering.{nat_cmp}
use Rattle.std.specs.BTreeMap.{is_at}
use Rattle.std.proofs.lemmas.List.Elements.{All-head, All-tail}
use Rattle.std.proofs.lemmas.List.Sums.{fold-append}
use Rattle.rt_query.specs.Select.{select, tree_of}
use Rattle.rt_world.specs.declared.report.Report.{Report}
use Rattle.rt_world.specs.declared.step.Step.{Step}
use Rattle.rt_world.specs.Calls.{step_of}
use Rattle.rt_world.specs.World.{Listener, World, empty_world, limits_from, pending}
use Rattle.rt_world.specs.Answers.{step}
use Rattle.rt_world.specs.Headline.{view_by}
use Rattle.rt_world.specs.Refusals.{refusal, is_stale}
use Rattle.rt_world.specs.Sound.{IsSound}
use Rattle.rt_world.specs.Views.{seen_over}
use Rattle.rt_world.specs.laws.Holds.{TakenIsSound}
use Rattle.rt_world.specs.laws.Steps.{StaysSound, WorldsAreSound}
use Rattle.rt_cache.specs.Brought.{base}
use Rattle.rt_sync.specs.Core.{without_first as without_sent}
use Rattle.rt_mail.specs.declared.item.Item.{Item}
use Rattle.rt_mail.specs.declared.item.Item.TheVariants as item
use Rattle.rt_mail.specs.declared.item.Receipt.{Receipt}
use Rattle.rt_mail.specs.Lanes.{Line, signed_lane}
use Rattle.rt_mail.specs.laws.Shows.{SelectsAgain}
use Rattle.rt_mail.specs.Snapshots.{Known, shown_of, seen_of, after_item, after_items}
use Rattle.rt_client.specs.declared.shared.Done.{Done}
use Rattle.rt_client.specs.Seats.{receipt_of, receipts_to, told_by, told_to, does_close, shown_by, reflection}
use Rattle.rt_client.specs.Lanes.{new_lane, lane_of, due, settled, with_told}
use Rattle.rt_client.specs.Shared.{Held, IsWhole, lane_after, signed_by}
use Rattle.rt_client.specs.Calls.{Locked, Seated, Made}
use Rattle.rt_client.specs.Opened.{new_locked}
use Rattle.rt_client.specs.laws.Showing.{seen_by, seen_in, StepShows, Foresees, ForeseesAtFirst, ForeseesWhatIsOpened, ForeseesWhatSettles, ForeseesWhatIsCalled, ForeseesSteps, ForeseesAnothersCall, ForeseesAnothersSettling, ForeseesAnothersEnd, ForeseesMessages, ForeseesOpenings, ForeseesWhatStays, ShowsAll}
use Rattle.rt_client.proofs.Entries.{is_at-number}
use Rattle.rt_client.proofs.Called.{stays_open}
use Rattle.rt_client.proofs.Followed.{opened, same_lane, here, lane_called}
use Rattle.rt_client.proofs.Kept.{take_drop}
use Rattle.rt_client.proofs.Mirrored.{sound_by}
use Rattle.rt_client.proofs.Numbers.{other_number}
use Rattle.rt_client.proofs.PutBy.{same_rest, open_again, held_lane, lane_told, no_receipt}

one_of : {X : Type 0} {x y : X} → Some x ≡ Some y → x ≡ y
one_of e = cc

-- ---- the world that is held

same_world : (locked : Locked) (one before : Held) (w v : World) → locked.held ≡ Some one → locked.held ≡ Some before → one.core ≡ Some w → before.core ≡ Some v → w ≡ v
same_world locked one before w v a b c d =
    let same : one ≡ before = one_of (sym a ∙ b) in
    one_of (sym c ∙ ap (λ (h : Held). h.core) same ∙ d)

-- ---- a seat that is opened

pub lane_new : (seats n : ℕ) → 1 ≤ n → n ≤ seats → lane_of (replicate seats (Some new_lane)) n ≡ Some new_lane
lane_new seats zero one most = absurd (omega (arith, one))
lane_new zero (suc place) one most = absurd (omega (arith, most))
lane_new (suc seats) (suc zero) one most = refl
lane_new (suc seats) (suc (suc place)) one most = lane_new seats (suc place) (omega arith) (omega (arith, most))

pub foresees_at_first : WorldsAreSound → ForeseesAtFirst
foresees_at_first sound number seats limits seat own one most = record {
  before = record { core = Some (empty_world (limits_from limits)); lanes = replicate seats (Some new_lane) };
  lane = new_lane;
  is_open = opened (new_locked number seats limits) (record { core = Some (empty_world (limits_from limits)); lanes = replicate seats (Some new_lane) }) seat new_lane refl own (lane_new seats seat.number one most);
  world = empty_world (limits_from limits);
  core = refl;
  sound = sound (limits_from limits) [];
  shows = refl;
}

-- where the core knows of no listener of a seat it shows none
none_shown : (ls : List Listener) → map shown_by ls ≡ [] → map seen_by ls ≡ []
none_shown [] e = refl
none_shown (l ∷ ls) e = cc

pub foresees_what_is_opened : ForeseesWhatIsOpened
foresees_what_is_opened old new capacity seat whole o =
    let n = o.number in
    let is_whole : IsWhole o.before = subst (λ h. IfSome h IsWhole) o.held whole in
    let kept = is_whole.kept in
    let unknown : reflection kept.world n ≡ record { listeners = []; requests = [] } = is_whole.unknown kept.world kept.core n o.free in
    let none : seen_in kept.world n ≡ [] = none_shown (filter (λ (l : Listener). l.seat == n) kept.world.listeners) (ap (λ k. k.listeners) unknown) in
    let own : seat.client ≡ new.number = ap (λ (s : Seated). s.client) o.seated ∙ sym (ap (λ (l : Locked). l.number) o.locked) in
    let number : seat.number ≡ n = ap (λ (s : Seated). s.number) o.seated in
    record {
      before = o.after;
      lane = new_lane;
      is_open = opened new o.after seat new_lane (ap (λ (l : Locked). l.held) o.locked) own (ap (lane_of o.after.lanes) number ∙ o.lanes n ∙ here n (Some new_lane) (lane_of o.before.lanes n));
      world = kept.world;
      core = o.core ∙ kept.core;
      sound = kept.sound;
      shows = sym (ap (seen_in kept.world) number ∙ none);
    }

-- ---- what is handed over

pub foresees_what_settles : ForeseesWhatSettles
foresees_what_settles old new seat left known items k h put =
    let lane = h.hands.lane in
    let n = seat.number in
    let count = due seat.ring lane in
    let due_now = take count lane.waiting in
    let same : k.lane ≡ lane = same_lane old k.before h.before seat k.lane lane h.own k.is_open h.held h.hands.is_open in
    let waiting : k.lane.waiting ≡ lane.waiting = ap (λ (l : Line). l.waiting) same in
    let now : lane_of h.after.lanes n ≡ Some (settled seat.ring lane) = h.hands.lanes n ∙ here n (Some (settled seat.ring lane)) (lane_of h.before.lanes n) in
    let ring : left.ring.items ≡ seat.ring.items ++ due_now = ap (λ (s : Seated). s.ring.items) h.seated ∙ ap (λ r. r.items) h.hands.ring in
    let all : items ≡ due_now = same_rest seat.ring.items items due_now (sym put ∙ ring) in
    let own : left.client ≡ new.number = ap (λ (s : Seated). s.client) h.seated ∙ h.own ∙ sym (ap (λ (l : Locked). l.number) h.locked) in
    let held : k.before ≡ h.before = one_of (sym k.is_open.held ∙ h.held) in
    record {
      before = h.after;
      lane = settled seat.ring lane;
      is_open = opened new h.after left (settled seat.ring lane) (ap (λ (l : Locked). l.held) h.locked) own (ap (λ (s : Seated). lane_of h.after.lanes s.number) h.seated ∙ now);
      world = k.world;
      core = h.hands.core ∙ sym (ap (λ (b : Held). b.core) held) ∙ k.core;
      sound = k.sound;
      shows =
          ap (λ xs. after_items (after_items known xs) (drop count lane.waiting)) all
          ∙ sym (fold-append after_item known due_now (drop count lane.waiting))
          ∙ ap (after_items known) (take_drop count lane.waiting ∙ sym waiting)
          ∙ k.shows
          ∙ sym (ap (λ (s : Seated). seen_in k.world s.number) h.seated);
    }

-- a step tells the seat that, and then nothing waits but it
told_shows : StepShows → (w : World) (s : Step) (n : ℕ) (report : Report) (first : List Item) → IsSound w → does_close n s ≡ false → (step w s).1 ≡ Ok report
    → receipts_to n w s ≡ first → after_items (seen_in w n) (first ++ told_to n report.notes) ≡ seen_in (step w s).0 n
told_shows one w s n report first sound stays answer receipts =
    ap (λ xs. after_items (seen_in w n) (xs ++ told_to n report.notes)) (sym receipts)
    ∙ ap (λ a. after_items (seen_in w n) (told_by n w s a)) (sym answer)
    ∙ one w s n sound stays

pub foresees_what_is_called : StaysSound → StepShows → ForeseesWhatIsCalled
foresees_what_is_called stays one old new seat left c done known items k h put =
    let called = h.called in
    let made = called.made in
    let lane = called.lane in
    let n = seat.number in
    let r = called.receipt in
    let w = made.world in
    let s = step_of n c in
    let notes = told_to n made.report.notes in
    let receipt = item.Receipt r ∷ [] in
    let last = with_told notes (signed_lane r lane) in
    let same : k.lane ≡ lane = same_lane old k.before h.before seat k.lane lane h.own k.is_open h.held called.is_open in
    let world : k.world ≡ w = same_world old k.before h.before k.world w k.is_open.held h.held k.core made.core in
    let sound : IsSound w = subst IsSound world k.sound in
    let now : lane_of h.after.lanes n ≡ Some last =
    made.makes.lanes n
    ∙ ap (λ a. lane_after n w s a (lane_of h.before.lanes n)) made.answer
    ∙ ap (λ o. lane_after n w s (Ok made.report) o) called.is_open
    ∙ lane_called w n c r made.report lane called.signed in
    let ring : left.ring.items ≡ seat.ring.items ++ (lane.waiting ++ receipt) = ap (λ (s : Seated). s.ring.items) h.seated ∙ ap (λ r. r.items) called.ring in
    let all : items ≡ lane.waiting ++ receipt = same_rest seat.ring.items items (lane.waiting ++ receipt) (sym put ∙ ring) in
    let own : left.client ≡ new.number = ap (λ (s : Seated). s.client) h.seated ∙ h.own ∙ sym (ap (λ (l : Locked). l.number) h.locked) in
    let waited : after_items known lane.waiting ≡ seen_in w n = ap (λ (l : Line). after_items known l.waiting) (sym same) ∙ k.shows ∙ ap (λ v. seen_in v n) world in
    let receipts : receipts_to n w s ≡ receipt =
    ap (λ o. option_map_or (λ (x : ℕ × Receipt). cond (x.0 == n) (item.Receipt x.1 ∷ []) []) o []) called.signed ∙ here n receipt [] in
    record {
      before = h.after;
      lane = last;
      is_open = opened new h.after left last (ap (λ (l : Locked). l.held) h.locked) own (ap (λ (s : Seated). lane_of h.after.lanes s.number) h.seated ∙ now);
      world = (step w s).0;
      core = made.makes.world;
      sound = sound_by stays (refusal w s) (is_stale w s) w s sound;
      shows =
          ap (λ xs. after_items (after_items known xs) notes) all
          ∙ ap (λ m. after_items m notes) (fold-append after_item known lane.waiting receipt)
          ∙ ap (λ m. after_items (after_items m receipt) notes) waited
          ∙ sym (fold-append after_item (seen_in w n) receipt notes)
          ∙ told_shows one w s n made.report receipt sound (stays_open n n c) made.answer receipts
          ∙ sym (ap (λ (t : Seated). seen_in (step w s).0 t.number) h.seated);
    }

-- ---- what others do

-- a step that does not close the seat, and is not its call
foresees_notes : StaysSound → StepShows → (old new : Locked) (seat : Seated) (known : Known) (s : Step) (done : Done) (before after : Held) → (k : Foresees old seat known)
    → old.held ≡ Some before → new.number ≡ old.number → new.held ≡ Some after → (made : Made before s done after)
    → does_close seat.number s ≡ false → receipts_to seat.number made.world s ≡ [] → signed_by seat.number (receipt_of made.world s) k.lane ≡ k.lane
    → Foresees new seat known
foresees_notes stays one old new seat known s done before after k held number left made stays_there none unsigned =
    let n = seat.number in
    let w = made.world in
    let lane = k.lane in
    let notes = told_to n made.report.notes in
    let last = with_told notes lane in
    let at : lane_of before.lanes n ≡ Some lane = held_lane old k.before before seat lane k.is_open held in
    let world : k.world ≡ w = same_world old k.before before k.world w k.is_open.held held k.core made.core in
    let sound : IsSound w = subst IsSound world k.sound in
    let now : lane_of after.lanes n ≡ Some last =
    made.makes.lanes n
    ∙ ap (λ a. lane_after n w s a (lane_of before.lanes n)) made.answer
    ∙ ap (λ o. lane_after n w s (Ok made.report) o) at
    ∙ lane_told n w s made.report lane stays_there unsigned in
    record {
      before = after;
      lane = last;
      is_open = open_again old new k.before after seat lane last k.is_open number left now;
      world = (step w s).0;
      core = made.makes.world;
      sound = sound_by stays (refusal w s) (is_stale w s) w s sound;
      shows =
          fold-append after_item known lane.waiting notes
          ∙ ap (λ m. after_items m notes) (k.shows ∙ ap (λ v. seen_in v n) world)
          ∙ told_shows one w s n made.report [] sound stays_there made.answer none;
    }

pub foresees_steps : StaysSound → StepShows → ForeseesSteps
foresees_steps stays one old new seat s done known no_call stays_there k m =
    let w = m.made.world in
    let none = no_receipt w s no_call in
    foresees_notes stays one old new seat known s done m.before m.after k m.held (ap (λ (l : Locked). l.number) m.left) (ap (λ (l : Locked). l.held) m.left) m.made stays_there
    (ap (λ o. option_map_or (λ (x : ℕ × Receipt). cond (x.0 == seat.number) (item.Receipt x.1 ∷ []) []) o []) none)
    (ap (λ o. signed_by seat.number o k.lane) none)

pub foresees_anothers_call : StaysSound → StepShows → ForeseesAnothersCall
foresees_anothers_call stays one old new seat other left c done known apart k h =
    let n = seat.number in
    let signed = h.called.signed in
    let others : (other.number == n) ≡ false = other_number other.number n apart in
    foresees_notes stays one old new seat known (step_of other.number c) done h.before h.after k h.held (ap (λ (l : Locked). l.number) h.locked) (ap (λ (l : Locked). l.held) h.locked) h.called.made (stays_open n other.number c)
    (ap (λ o. option_map_or (λ (x : ℕ × Receipt). cond (x.0 == n) (item.Receipt x.1 ∷ []) []) o []) signed ∙ ap (λ b. cond b (item.Receipt h.called.receipt ∷ []) []) others)
    (ap (λ o. signed_by n o k.lane) signed ∙ ap (λ b. cond b (signed_lane h.called.receipt k.lane) k.lane) others)

pub foresees_anothers_end : ForeseesSteps → ForeseesAnothersEnd
foresees_anothers_end steps old new seat other known apart k h =
    steps old new seat (Step.CloseSeat other.number) h.done known refl (other_number other.number seat.number apart) k h.made

-- the lane and the world stay
foresees_same : (old new : Locked) (seat : Seated) (known : Known) (after : Held) (v : World) → (k : Foresees old seat known) → new.number ≡ old.number → new.held ≡ Some after
    → lane_of after.lanes seat.number ≡ Some k.lane → after.core ≡ Some v → IsSound v → seen_in v seat.number ≡ seen_in k.world seat.number → Foresees new seat known
foresees_same old new seat known after v k number left now core sound same = record {
  before = after;
  lane = k.lane;
  is_open = open_again old new k.before after seat k.lane k.lane k.is_open number left now;
  world = v;
  core = core;
  sound = sound;
  shows = k.shows ∙ sym same;
}

pub foresees_anothers_settling : ForeseesAnothersSettling
foresees_anothers_settling old new seat other left known apart k h =
    let n = seat.number in
    let held : k.before ≡ h.before = one_of (sym k.is_open.held ∙ h.held) in
    let now : lane_of h.after.lanes n ≡ Some k.lane =
    h.hands.lanes n
    ∙ ap (λ b. cond b (Some (settled other.ring h.hands.lane)) (lane_of h.before.lanes n)) (other_number other.number n apart)
    ∙ held_lane old k.before h.before seat k.lane k.is_open h.held in
    foresees_same old new seat known h.after k.world k (ap (λ (l : Locked). l.number) h.locked) (ap (λ (l : Locked). l.held) h.locked) now
    (h.hands.core ∙ sym (ap (λ (b : Held). b.core) held) ∙ k.core) k.sound refl

pub foresees_messages : TakenIsSound → ForeseesMessages
foresees_messages taken old new seat message known k t =
    let w = t.takes.world in
    let world : k.world ≡ w = same_world old k.before t.before k.world w k.is_open.held t.held k.core t.takes.core in
    let now : lane_of t.after.lanes seat.number ≡ Some k.lane =
    ap (λ (h : Held). lane_of h.lanes seat.number) t.takes.left ∙ held_lane old k.before t.before seat k.lane k.is_open t.held in
    foresees_same old new seat known t.after (without_sent w) k (ap (λ (l : Locked). l.number) t.locked) (ap (λ (l : Locked). l.held) t.locked) now
    (ap (λ (h : Held). h.core) t.takes.left) (taken w (drop 1 w.outgoing) (subst IsSound world k.sound)) (ap (λ v. seen_in v seat.number) (sym world))

pub foresees_openings : ForeseesOpenings
foresees_openings old new seat other capacity known k o =
    let n = seat.number in
    let held : k.before ≡ o.before = one_of (sym k.is_open.held ∙ o.held) in
    let at : lane_of o.before.lanes n ≡ Some k.lane = held_lane old k.before o.before seat k.lane k.is_open o.held in
    let apart : (o.number == n) ≡ false = other_number o.number n (λ same. clash (sym o.free ∙ ap (lane_of o.before.lanes) same ∙ at)) in
    let now : lane_of o.after.lanes n ≡ Some k.lane = o.lanes n ∙ ap (λ b. cond b (Some new_lane) (lane_of o.before.lanes n)) apart ∙ at in
    foresees_same old new seat known o.after k.world k (ap (λ (l : Locked). l.number) o.locked) (ap (λ (l : Locked). l.held) o.locked) now
    (o.core ∙ sym (ap (λ (b : Held). b.core) held) ∙ k.core) k.sound refl
  where
    clash : None ≡ Some k.lane → ⊥
    clash e = cc

pub foresees_what_stays : ForeseesWhatStays
foresees_what_stays old new seat left known number held client own k = record {
  before = k.before;
  lane = k.lane;
  is_open = record {
    held = held ∙ k.is_open.held;
    own = (λ i. cond (client i == number i) (lane_of k.before.lanes (own i)) None) ∙ k.is_open.own;
  };
  world = k.world;
  core = k.core;
  sound = k.sound;
  shows = k.shows ∙ ap (seen_in k.world) (sym own);
}

-- ---- what is shown

-- a listener among those of the seat, by its number
found_seen : (n seat : ℕ) (l : Listener) (ls : List Listener) → find (λ l. l.number == n) ls ≡ Some l → l.seat ≡ seat
    → lookup (is_at (nat_cmp n)) (map seen_by (filter (λ l. l.seat == seat) ls)) ≡ Some (seen_by l).1
found_seen n seat l [] is own = cc
found_seen n seat l (m ∷ ls) is own =
    let ys = filter (λ (l : Listener). l.seat == seat) ls in
    elim (m.number == n) as (λ b. (m.number == n) ≡ b → cond b (Some m) (find (λ (l : Listener). l.number == n) ls) ≡ Some l
    → lookup (is_at (nat_cmp n)) (map seen_by (cond (m.seat == seat) (m ∷ ys) ys)) ≡ Some (seen_by l).1) [
      | true ↦ λ t e.
          let same : m ≡ l = one_of e in
          let its : (m.seat == seat) ≡ true = ap (λ (x : Listener). x.seat == seat) same ∙ ap (λ x. x == seat) own ∙ nat_eq_equiv.refl seat in
          ap (λ b. lookup (is_at (nat_cmp n)) (map seen_by (cond b (m ∷ ys) ys))) its
          ∙ ap (λ b. cond b (Some (seen_by m).1) (lookup (is_at (nat_cmp n)) (map seen_by ys))) (is_at-number n m.number ∙ t)
          ∙ ap (λ (x : Listener). Some (seen_by x).1) same
      | false ↦ λ t e.
          let rest = found_seen n seat l ls e own in
          elim (m.seat == seat) as (λ b. lookup (is_at (nat_cmp n)) (map seen_by (cond b (m ∷ ys) ys)) ≡ Some (seen_by l).1) [
            | true ↦ ap (λ b. cond b (Some (seen_by m).1) (lookup (is_at (nat_cmp n)) (map seen_by ys))) (is_at-number n m.number ∙ t) ∙ rest
            | false ↦ rest
          ]
    ] refl is

-- what holds of all holds of one that is found
found_holds : (P : Listener → Type 0) (test : Listener → Bool) (l : Listener) (ls : List Listener) → find test ls ≡ Some l → All P ls → P l
found_holds P test l [] is h = cc
found_holds P test l (m ∷ ls) is h =
    elim (test m) as (λ b. cond b (Some m) (find test ls) ≡ Some l → P l) [
      | true ↦ λ e. subst P (one_of e) (All-head P m ls h)
      | false ↦ λ e. found_holds P test l ls e (All-tail P m ls h)
    ] is

-- a view is shown by its tree
view_shown : SelectsAgain → (w : World) (l : Listener) → l.view ≡ view_by l.is_primed w l.query → shown_of (seen_by l).1 ≡ l.view
view_shown again w l is = ap (λ v. option_map (select l.query) (option_map tree_of v)) is ∙ primed l.is_primed ∙ sym is
  where
    primed : (b : Bool) → option_map (select l.query) (option_map tree_of (view_by b w l.query)) ≡ view_by b w l.query
    primed true = ap Some (again l.query (seen_over (base w.brought l.query) (pending w.requests) l.query))
    primed false = refl

pub shows_all : SelectsAgain → ShowsAll
shows_all again locked seat known k none =
    let w = k.world in
    let all : known ≡ seen_in w seat.number = ap (after_items known) (sym none) ∙ k.shows in
    record {
      all = all;
      each = λ n l is own. (
        (seen_by l).1,
        ap (seen_of n) all ∙ found_seen n seat.number l w.listeners is own,
        refl,
        view_shown again w l (found_holds (λ (x : Listener). x.view ≡ view_by x.is_primed w x.query) (λ (x : Listener). x.number == n) l w.listeners is k.sound.views),
      );
    }
