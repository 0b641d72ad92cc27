-- What a seat is told while its ring is filled and emptied in turn.
use Rattle.std.proofs.Common.{◌≡◌, ◌≢◌, ◌+◌, ◌-◌, ◌<◌, ◌++◌, ◌∷◌, [], ℕ, zero, suc, Bool, true, false, List}
use Rattle.std.proofs.Common.{length, take, drop, Option, Some, None, inl, inr, refl, sym, ap, subst, ◌∙◌}
use Rattle.std.proofs.Common.{arith, append-nil, append_assoc}
use Rattle.std.specs.Prelude.{◌==◌, if◌then◌else◌, min}
use Rattle.std.specs.Cmp.{nat_eq_equiv}
use Rattle.std.specs.Option.{option_and_then, option_map, option_map_or}
use Rattle.std.proofs.lemmas.Bool.{eqb-true}
use Rattle.std.proofs.lemmas.Grind.{flat_map-append}
use Rattle.std.proofs.lemmas.List.{drop_all, length-append, take-append-drop}
use Rattle.std.proofs.lemmas.List.Sums.{fold-append}
use Rattle.rt_mail.specs.declared.item.Item.{Item}
use Rattle.rt_mail.specs.Lanes.{Line, Ring}
use Rattle.rt_mail.specs.Mailbox.{Known, known_of, taken}
use Rattle.rt_client.specs.declared.error.ClientError.{ClientError}
use Rattle.rt_client.specs.declared.error.ClientError.TheVariants.{Failed, WrongSeat, MailboxFull}
use Rattle.rt_client.specs.declared.error.ClientError.TheVariants.{TooManySeats, Core, NoMemory}
use Rattle.rt_client.specs.Calls.{Locked, Seated, own_lane}
use Rattle.rt_client.specs.Delivery.{emptied}
use Rattle.rt_client.specs.Lanes.{due, lane_of, settled}
use Rattle.rt_client.specs.Settling.{RefusesSettle, Settles}
use Rattle.rt_client.specs.Shared.{Held, foreseen}
use Rattle.rt_connect.specs.Printing.{item_text, items_text}
use Rattle.rt_connect.specs.Telling.{ChangesLane, ChangesOwn, FillsRing, TellsSeat}
use Rattle.rt_connect.specs.Telling.{lane_for, to_tell, waits_for}

-- ---- a seat's lane

if_same : {X : Type 0} (one other : ℕ) (a b : X) → one ≡ other → (if one == other then a else b) ≡ a
if_same one other a b e =
    ap (λ t. if t then a else b) (ap (λ n. one == n) (sym e) ∙ nat_eq_equiv.refl one)

-- the lane of a seat of the client that is open
found : (locked : Locked) (held : Held) (seat : Seated) (lane : Line) → locked.held ≡ Some held
    → seat.client ≡ locked.number → lane_of held.lanes seat.number ≡ Some lane → lane_for locked seat ≡ Some lane
found locked held seat lane is own open_lane =
    ap (option_and_then (λ (h : Held). own_lane locked h seat)) is
    ∙ if_same seat.client locked.number (lane_of held.lanes seat.number) None own
    ∙ open_lane

-- a seat that is settled has its lane before and after
lane_before : (old : Locked) (seat : Seated) (new : Locked) (left : Seated) (s : Settles old seat new left)
    → lane_for old seat ≡ Some s.hands.lane
lane_before old seat new left s = found old s.before seat s.hands.lane s.held s.own s.hands.is_open

lane_after : (old : Locked) (seat : Seated) (new : Locked) (left : Seated) (s : Settles old seat new left)
    → lane_for new left ≡ Some (settled seat.ring s.hands.lane)
lane_after old seat new left s =
    let lane : Line = settled seat.ring s.hands.lane in
    found new s.after left lane (ap (λ (l : Locked). l.held) s.locked)
    (ap (λ (x : Seated). x.client) s.seated ∙ s.own ∙ sym (ap (λ (l : Locked). l.number) s.locked))
    (ap (λ (x : Seated). lane_of s.after.lanes x.number) s.seated
    ∙ s.hands.lanes seat.number
    ∙ if_same seat.number seat.number (Some lane) (lane_of s.before.lanes seat.number) refl)

-- ---- the ring is filled

abbrev pub waits_in : Option Line → List Item
waits_in o = option_map_or (λ (l : Line). l.waiting) o []

-- a refusal but for want of memory changes nothing, and nothing waits then
unchanged : (old : Locked) (seat : Seated) (why : ClientError) (new : Locked) (left : Seated)
    → RefusesSettle old seat why new left → why ≢ NoMemory
    → (new ≡ old) × (left ≡ seat) × (lane_for old seat ≡ None)
unchanged old seat Failed new left h other =
    (h.1.0, h.1.1, ap (option_and_then (λ (x : Held). own_lane old x seat)) h.0)
unchanged old seat WrongSeat new left h other =
    (h.1.0, h.1.1, ap (option_and_then (λ (x : Held). own_lane old x seat)) h.0.held ∙ h.0.none)
unchanged old seat MailboxFull new left h other = absurd h
unchanged old seat TooManySeats new left h other = absurd h
unchanged old seat (Core why) new left h other = absurd h
unchanged old seat NoMemory new left h other = absurd (other refl)

-- what a seat is to be told stays
fill_keeps : (old : Locked) (seat : Seated) (new : Locked) (left : Seated) → FillsRing old seat new left
    → to_tell new left ≡ to_tell old seat
fill_keeps old seat new left (inl s) =
    let lane : Line = s.hands.lane in
    let n : ℕ = due seat.ring lane in
    ap (λ o. left.ring.items ++ waits_in o) (lane_after old seat new left s)
    ∙ ap (λ (x : Seated). x.ring.items ++ drop n lane.waiting) s.seated
    ∙ ap (λ (r : Ring). r.items ++ drop n lane.waiting) s.hands.ring
    ∙ append_assoc seat.ring.items (take n lane.waiting) (drop n lane.waiting)
    ∙ ap (λ x. seat.ring.items ++ x) (take-append-drop n lane.waiting)
    ∙ ap (λ o. seat.ring.items ++ waits_in o) (sym (lane_before old seat new left s))
fill_keeps old seat new left (inr r) =
    let same = unchanged old seat r.0 new left r.1 r.2 in
    ap (λ (l : Locked). to_tell l left) same.0 ∙ ap (to_tell old) same.1

-- so does all of the seat but its items
fill_stays : (old : Locked) (seat : Seated) (new : Locked) (left : Seated) → FillsRing old seat new left
    → emptied left ≡ emptied seat
fill_stays old seat new left (inl s) =
    ap emptied s.seated ∙ ap (λ (r : Ring). record seat { ring = record r { items = [] } }) s.hands.ring
fill_stays old seat new left (inr r) = ap emptied (unchanged old seat r.0 new left r.1 r.2).1

took_some : {X : Type 0} (n : ℕ) (x : X) (xs : List X) → 0 < n → take n (x ∷ xs) ≡ [] → ⊥
took_some zero x xs pos e = omega arith
took_some (suc n) x xs pos e = cc

-- where a ring that can hold an item is empty then, nothing waits
none_due : (has waits : List Item) (capacity : ℕ) → 0 < capacity
    → has ++ take (min (length waits) (capacity - length has)) waits ≡ []
    → drop (min (length waits) (capacity - length has)) waits ≡ []
none_due (h ∷ has) waits capacity pos e = cc
none_due [] [] capacity pos e = drop_all (min 0 (capacity - 0)) [] (omega arith)
none_due [] (w ∷ waits) capacity pos e =
    absurd (took_some (min (length (w ∷ waits)) (capacity - 0)) w waits (omega arith) e)

fill_all : (old : Locked) (seat : Seated) (new : Locked) (left : Seated) → FillsRing old seat new left
    → 0 < seat.ring.capacity → left.ring.items ≡ [] → waits_for new left ≡ []
fill_all old seat new left (inl s) pos none =
    let lane : Line = s.hands.lane in
    let ring : left.ring.items ≡ seat.ring.items ++ take (due seat.ring lane) lane.waiting =
    ap (λ (x : Seated). x.ring.items) s.seated ∙ ap (λ (r : Ring). r.items) s.hands.ring in
    ap waits_in (lane_after old seat new left s)
    ∙ none_due seat.ring.items lane.waiting seat.ring.capacity pos (sym ring ∙ none)
fill_all old seat new left (inr r) pos none =
    let same = unchanged old seat r.0 new left r.1 r.2 in
    ap (λ (l : Locked). waits_for l left) same.0 ∙ ap (waits_for old) same.1 ∙ ap waits_in same.2

-- ---- nothing but the seat's lane is changed

handed : (n : ℕ) (items : List Item) (o : Option Known)
    → option_map (λ m. known_of m (drop n items)) (option_map (λ m. known_of m (take n items)) o)
    ≡ option_map (λ m. known_of m items) o
handed n items None = refl
handed n items (Some m) =
    ap Some (sym (fold-append taken m (take n items) (drop n items))
    ∙ ap (known_of m) (take-append-drop n items))

-- what the seat will know is what it would have known
knows_same : (ring : Ring) (lane : Line) → foreseen (settled ring lane) ≡ foreseen lane
knows_same ring lane = handed (due ring lane) lane.waiting lane.mirror

twice : {X : Type 0} (b : Bool) (x y z : X) → (if b then x else (if b then y else z)) ≡ (if b then x else z)
twice true x y z = refl
twice false x y z = refl

-- the lane is changed once more
lane_again : (old mid : Locked) (seat now : Seated) (lane : Line) (new : Locked) (left : Seated)
    → emptied now ≡ emptied seat → ChangesLane old seat lane mid → Settles mid now new left
    → ChangesLane old seat lane new
lane_again old mid seat now lane new left same c s =
    let number : now.number ≡ seat.number = ap (λ (x : Seated). x.number) same in
    let one : mid.held ≡ Some c.after = ap (λ (l : Locked). l.held) c.locked in
    let held : s.before ≡ c.after = cc (s.held, one) in
    let next : Line = settled now.ring s.hands.lane in
    let at : lane_of c.after.lanes seat.number ≡ Some c.left =
    c.lanes seat.number
    ∙ if_same seat.number seat.number (Some c.left) (lane_of c.before.lanes seat.number) refl in
    let there : Some s.hands.lane ≡ Some c.left =
    sym s.hands.is_open ∙ ap (λ (h : Held). lane_of h.lanes now.number) held
    ∙ ap (lane_of c.after.lanes) number ∙ at in
    let which : s.hands.lane ≡ c.left = cc there in record {
      before = c.before;
      held = c.held;
      after = s.after;
      locked = s.locked ∙ ap (λ (l : Locked). record l { held = Some s.after }) c.locked;
      core = s.hands.core ∙ ap (λ (h : Held). h.core) held ∙ c.core;
      left = next;
      lanes = λ n.
          s.hands.lanes n
          ∙ ap (λ k. if k == n then Some next else lane_of s.before.lanes n) number
          ∙ ap (λ (h : Held). if seat.number == n then Some next else lane_of h.lanes n) held
          ∙ ap (λ o. if seat.number == n then Some next else o) (c.lanes n)
          ∙ twice (seat.number == n) (Some next) (Some c.left) (lane_of c.before.lanes n);
      knows = knows_same now.ring s.hands.lane ∙ ap foreseen which ∙ c.knows;
    }

own_again : (old mid : Locked) (seat now : Seated) (new : Locked) (left : Seated) (lane : Option Line)
    → lane_for old seat ≡ lane → emptied now ≡ emptied seat → ChangesOwn lane old seat mid
    → FillsRing mid now new left → ChangesOwn lane old seat new
own_again old mid seat now new left None none same c (inl s) =
    let is : lane_for mid now ≡ None =
    ap (λ (l : Locked). lane_for l now) c ∙ ap (lane_for old) same ∙ none in
    absurd (cc (is, lane_before mid now new left s))
own_again old mid seat now new left None none same c (inr r) =
    (unchanged mid now r.0 new left r.1 r.2).0 ∙ c
own_again old mid seat now new left (Some lane) is same c (inl s) =
    lane_again old mid seat now lane new left same c s
own_again old mid seat now new left (Some lane) is same c (inr r) =
    subst (ChangesLane old seat lane) (sym (unchanged mid now r.0 new left r.1 r.2).0) c

-- at first nothing is changed
its_own : (b : Bool) (lanes : Option Line) (lane : Line) → (if b then lanes else None) ≡ Some lane
    → lanes ≡ Some lane
its_own true lanes lane e = e
its_own false lanes lane e = cc

same_lane : (seat n : ℕ) (lanes : List (Option Line)) (lane : Line) (b : Bool) → (seat == n) ≡ b
    → lane_of lanes seat ≡ Some lane → lane_of lanes n ≡ (if b then Some lane else lane_of lanes n)
same_lane seat n lanes lane true e is = ap (lane_of lanes) (sym (eqb-true seat n e)) ∙ is
same_lane seat n lanes lane false e is = refl

own_first : (old : Locked) (seat : Seated) (held : Held) → old.held ≡ Some held → (lane : Option Line)
    → own_lane old held seat ≡ lane → ChangesOwn lane old seat old
own_first old seat held e None none = refl
own_first old seat held e (Some lane) is = record {
  before = held;
  held = e;
  after = held;
  locked = ap (λ h. record old { held = h }) e;
  core = refl;
  left = lane;
  lanes = λ n.
      same_lane seat.number n held.lanes lane (seat.number == n) refl
      (its_own (seat.client == old.number) (lane_of held.lanes seat.number) lane is);
  knows = refl;
}

held_first : (old : Locked) (seat : Seated) (held : Option Held) → old.held ≡ held
    → ChangesOwn (option_and_then (λ (h : Held). own_lane old h seat) held) old seat old
held_first old seat None e = refl
held_first old seat (Some held) e = own_first old seat held e (own_lane old held seat) refl

-- ---- rounds

-- so far the seat was told some first items, each was printed, and the others are still to be told
pub record IsTelling (old : Locked) (seat : Seated) (text : List ℕ) (now : Locked) (left : Seated)
    : Type 0 where
  pub told : List Item
  pub printed : text ≡ items_text told
  pub rest : to_tell old seat ≡ told ++ to_tell now left
  pub same : emptied left ≡ emptied seat
  pub own : ChangesOwn (lane_for old seat) old seat now

pub telling_none : (old : Locked) (seat : Seated) → IsTelling old seat [] old seat
telling_none old seat = record {
  told = [];
  printed = refl;
  rest = refl;
  same = refl;
  own = held_first old seat old.held refl;
}

-- the ring is filled, and told
pub telling_more : (old : Locked) (seat : Seated) (text : List ℕ) (mid : Locked) (now : Seated) (new : Locked)
    (left : Seated) → IsTelling old seat text mid now → FillsRing mid now new left
    → IsTelling old seat (text ++ items_text left.ring.items) new (emptied left)
telling_more old seat text mid now new left t f = record {
  told = t.told ++ left.ring.items;
  printed =
      ap (λ x. x ++ items_text left.ring.items) t.printed
      ∙ sym (flat_map-append item_text t.told left.ring.items);
  rest =
      t.rest ∙ ap (λ x. t.told ++ x) (sym (fill_keeps mid now new left f))
      ∙ sym (append_assoc t.told left.ring.items (waits_for new left));
  same = fill_stays mid now new left f ∙ t.same;
  own = own_again old mid seat now new left (lane_for old seat) refl t.same t.own f;
}

-- where the ring held nothing then, the seat was told all
pub telling_all : (old : Locked) (seat : Seated) (text : List ℕ) (mid : Locked) (now : Seated) (new : Locked)
    (left : Seated) → IsTelling old seat text mid now → FillsRing mid now new left → left.ring.items ≡ []
    → TellsSeat old seat (text ++ items_text left.ring.items) new
telling_all old seat text mid now new left t f none =
    let more = telling_more old seat text mid now new left t f in
    let there : waits_for new left ≡ waits_for new seat = ap (waits_for new) more.same in
    let room : seat.ring.capacity ≡ now.ring.capacity =
    ap (λ (x : Seated). x.ring.capacity) (sym t.same) in record {
      told = more.told;
      printed = more.printed;
      rest = more.rest ∙ ap (λ x. more.told ++ x) there;
      all = λ pos.
          sym there ∙ fill_all mid now new left f (subst (λ n. 0 < n) room pos) none;
      own = more.own;
    }

-- less is to be told after each round
pub tells_less : (mid : Locked) (now : Seated) (new : Locked) (left : Seated) → FillsRing mid now new left
    → 0 < length left.ring.items → length (to_tell new (emptied left)) < length (to_tell mid now)
tells_less mid now new left f some =
    let is : length (to_tell mid now) ≡ length left.ring.items + length (waits_for new left) =
    ap length (sym (fill_keeps mid now new left f)) ∙ length-append left.ring.items (waits_for new left) in
    let waits : length (to_tell new (emptied left)) ≡ length (waits_for new left) = refl in
    omega (arith, is, some, waits)

-- ---- rounds, with what is printed

-- what was printed so far, and what it tells
abbrev pub HasTold : Locked → Seated → List ℕ → List ℕ → Locked → Seated → Type 0
HasTold old seat first out now left =
    (text : List ℕ) × (out ≡ first ++ text) × IsTelling old seat text now left

pub told_nothing : (old : Locked) (seat : Seated) (out : List ℕ) → HasTold old seat out out old seat
told_nothing old seat out = ([], sym (append-nil out), telling_none old seat)

more_out : (first out next text more : List ℕ) → out ≡ first ++ text → next ≡ out ++ more
    → next ≡ first ++ (text ++ more)
more_out first out next text more e f = f ∙ ap (λ x. x ++ more) e ∙ append_assoc first text more

-- one round more
pub told_more : (old : Locked) (seat : Seated) (first out next : List ℕ) (mid : Locked) (now : Seated)
    (new : Locked) (left after : Seated) → HasTold old seat first out mid now → FillsRing mid now new left
    → next ≡ out ++ items_text left.ring.items → after ≡ emptied left → HasTold old seat first next new after
told_more old seat first out next mid now new left after h f printed is = (
  h.0 ++ items_text left.ring.items,
  more_out first out next h.0 (items_text left.ring.items) h.1 printed,
  subst (IsTelling old seat (h.0 ++ items_text left.ring.items) new) (sym is)
      (telling_more old seat h.0 mid now new left h.2 f),
)

-- the last round, in which the ring held nothing
pub told_last : (old : Locked) (seat : Seated) (first out next : List ℕ) (mid : Locked) (now : Seated)
    (new : Locked) (left : Seated) → HasTold old seat first out mid now → FillsRing mid now new left
    → next ≡ out ++ items_text left.ring.items → left.ring.items ≡ []
    → (text : List ℕ) × (next ≡ first ++ text) × TellsSeat old seat text new
told_last old seat first out next mid now new left h f printed none = (
  h.0 ++ items_text left.ring.items,
  more_out first out next h.0 (items_text left.ring.items) h.1 printed,
  telling_all old seat h.0 mid now new left h.2 f none,
)

-- its ring is empty then
pub told_ring : (old : Locked) (seat : Seated) (first out : List ℕ) (mid : Locked) (now : Seated) (new : Locked)
    (left after : Seated) → HasTold old seat first out mid now → FillsRing mid now new left
    → after ≡ emptied left → after ≡ emptied seat
told_ring old seat first out mid now new left after h f is =
    is ∙ fill_stays mid now new left f ∙ h.2.same

-- less is to be told than before
pub told_less : (mid : Locked) (now : Seated) (new : Locked) (left after : Seated) → FillsRing mid now new left
    → after ≡ emptied left → 0 < length left.ring.items
    → length (to_tell new after) < length (to_tell mid now)
told_less mid now new left after f is some =
    subst (λ (x : Seated). length (to_tell new x) < length (to_tell mid now)) (sym is)
    (tells_less mid now new left f some)
