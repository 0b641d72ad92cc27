-- How items are taken out of a seat's ring, one after another.
use Rattle.std.proofs.Common.{◌≡◌, ◌⊎◌, ◌+◌, ◌-◌, ◌<◌, ◌≤◌, ℕ, List, [], ◌∷◌, ◌++◌, length, take, drop}
use Rattle.std.proofs.Common.{Bool, true, false, Option, Some, None, refl, sym, ap, subst, inl, inr, ◌∙◌, arith}
use Rattle.std.proofs.Common.{append-nil, append_assoc, Result, Ok, Err}
use Rattle.std.specs.Prelude.{◌==◌, ◌≢◌, if◌then◌else◌, min, max, IfOk, IfErr, OnOk}
use Rattle.std.specs.List.{All, slice_get}
use Rattle.std.specs.Option.{option_map}
use Rattle.std.proofs.lemmas.Bool.Decides.{nat_tests}
use Rattle.std.proofs.lemmas.List.{drop-drop, drop-take, drop_all, length-append, length-drop, length-take, take-append-drop, take-take}
use Rattle.std.proofs.lemmas.List.Elements.{All-cons}
use Rattle.rt_mail.specs.declared.item.Item.{Item}
use Rattle.rt_mail.specs.declared.lane.TheConstants.{MAX_CAPACITY}
use Rattle.rt_mail.specs.Lanes.{Line, Ring, without_first}
use Rattle.rt_mail.specs.Mailbox.{Known, taken, known_of}
use Rattle.rt_world.specs.declared.step.Call.{Call}
use Rattle.rt_client.specs.declared.shared.Done.{Done}
use Rattle.rt_client.specs.declared.error.ClientError.{ClientError}
use Rattle.rt_client.specs.declared.error.ClientError.TheVariants as client
use Rattle.rt_client.specs.Calls as calls
use Rattle.rt_client.specs.Calls.{IsOpen, Locked, Seated, own_lane}
use Rattle.rt_client.specs.Lanes.{due, lane_of}
use Rattle.rt_client.specs.Opened.{seats_from}
use Rattle.rt_client.specs.Settling as settling
use Rattle.rt_client.specs.Shared.{Held}
use Rattle.rt_foreign.specs.Places.{OpenSeat, looked}
use Rattle.rt_foreign.specs.Room.{CanHold, IsFull, IsSeated, IsUntouched, LacksRoom, MakesCall, RefusesCall, TakesAll}
use Rattle.rt_foreign.specs.Room.{TakesOut}

-- ---- lists

-- the first h, and k more
take_on : (h k : ℕ) (xs : List Item) → take h xs ++ take k (drop h xs) ≡ take (h + k) xs
take_on h k xs =
    ap (λ ys. ys ++ take k (drop h xs)) (sym (take-take h (h + k) xs (omega arith)))
    ∙ ap (λ zs. take h (take (h + k) xs) ++ zs) (sym (drop-take h k xs))
    ∙ take-append-drop h (take (h + k) xs)

pub none_there : (xs : List Item) → slice_get xs 0 ≡ None → xs ≡ []
none_there [] e = refl
none_there (y ∷ ys) e = cc

-- the first of a list is moved behind another, if there is one
pub first_moved : (had xs : List Item) (x : Item) → slice_get xs 0 ≡ Some x → had ++ x ∷ [] ≡ had ++ take 1 xs
first_moved had [] x e = cc
first_moved had (y ∷ ys) x e = let head : y ≡ x = cc in ap (λ z. had ++ z ∷ []) (sym head)

pub none_moved : (had xs : List Item) → slice_get xs 0 ≡ None → had ≡ had ++ take 1 xs
none_moved had [] e = sym (append-nil had)
none_moved had (y ∷ ys) e = cc

-- where a ring that can hold something gets nothing, nothing waits
nothing_due : (had waiting : List Item) (capacity : ℕ) → 0 < capacity
    → had ++ take (min (length waiting) (capacity - length had)) waiting ≡ []
    → length waiting ≤ min (length waiting) (capacity - length had)
nothing_due had waiting capacity lt e =
    let n : ℕ = min (length waiting) (capacity - length had) in
    let all : length had + min n (length waiting) ≡ 0 =
    ap (λ k. length had + k) (sym (length-take n waiting)) ∙ sym (length-append had (take n waiting)) ∙ ap length e in
    omega arith

-- ---- lanes

known-append : (m : Known) (xs ys : List Item) → known_of m (xs ++ ys) ≡ known_of (known_of m xs) ys
known-append m [] ys = refl
known-append m (x ∷ xs) ys = known-append (taken m x) xs ys

known_on : (h k : ℕ) (xs : List Item) (o : Option Known)
    → option_map (λ m. known_of m (take k (drop h xs))) (option_map (λ m. known_of m (take h xs)) o)
    ≡ option_map (λ m. known_of m (take (h + k) xs)) o
known_on h k xs None = refl
known_on h k xs (Some m) =
    ap Some (sym (known-append m (take h xs) (take k (drop h xs))) ∙ ap (known_of m) (take_on h k xs))

-- a lane that hands over h items, and then k more
handed_on : (h k : ℕ) (l : Line) → without_first k (without_first h l) ≡ without_first (h + k) l
handed_on h k l = λ i. record {
  waiting = drop-drop k h l.waiting i;
  mirror = known_on h k l.waiting l.mirror i;
}

same_number : (n : ℕ) → (n == n) ≡ true
same_number n = grind (arith, nat_tests)

lane_split : (b : Bool) (o : Option Line) (lane : Line) → (if b then o else None) ≡ Some lane
    → (b ≡ true) × (o ≡ Some lane)
lane_split true o lane e = (refl, e)
lane_split false o lane e = cc

lane_there : (b : Bool) (o : Option Line) (lane : Line) → b ≡ true → o ≡ Some lane
    → (if b then o else None) ≡ Some lane
lane_there b o lane t e = subst (λ c. (if c then o else None) ≡ Some lane) (sym t) e

-- the one lane is changed twice
changed_twice : (b : Bool) (new mid old last first both : Option Line) → new ≡ (if b then last else mid)
    → mid ≡ (if b then first else old) → last ≡ both → new ≡ (if b then both else old)
changed_twice true new mid old last first both e f g = e ∙ g
changed_twice false new mid old last first both e f g = e ∙ f

-- ---- what a ring can hold stays

pub holds_made : (old new : Locked) (seat left : Seated) (c : Call) (done : Done)
    → calls.MakesCall old seat c done new left → CanHold seat → CanHold left
holds_made old new seat left c done m h =
    subst (λ (a : Seated). CanHold a) (sym m.seated) (subst (λ (r : Ring). 0 < r.capacity) (sym m.called.ring) h)

pub holds_refused : (old new : Locked) (seat left : Seated) (c : Call) (e : ClientError)
    → calls.RefusesCall old seat c e new left → CanHold seat → CanHold left
holds_refused old new seat left c client.Failed r h = subst (λ (a : Seated). CanHold a) (sym r.1.1) h
holds_refused old new seat left c client.WrongSeat r h = subst (λ (a : Seated). CanHold a) (sym r.1.1) h
holds_refused old new seat left c client.MailboxFull r h = subst (λ (a : Seated). CanHold a) (sym r.4.1) h
holds_refused old new seat left c client.TooManySeats r h = absurd r
holds_refused old new seat left c (client.Core why) r h = subst (λ (a : Seated). CanHold a) (sym r.4.1) h
holds_refused old new seat left c client.NoMemory r h =
    subst (λ (a : Seated). CanHold a) (sym r.6)
    (subst (λ (x : Ring). 0 < x.capacity) (sym r.5.hands.ring) h)

pub holds_settled : (old new : Locked) (seat left : Seated) → settling.Settles old seat new left → CanHold seat
    → CanHold left
holds_settled old new seat left s h =
    subst (λ (a : Seated). CanHold a) (sym s.seated) (subst (λ (r : Ring). 0 < r.capacity) (sym s.hands.ring) h)

pub holds_unsettled : (old new : Locked) (seat left : Seated) (e : ClientError)
    → settling.RefusesSettle old seat e new left → e ≢ client.NoMemory → CanHold seat → CanHold left
holds_unsettled old new seat left client.Failed r m h = subst (λ (a : Seated). CanHold a) (sym r.1.1) h
holds_unsettled old new seat left client.WrongSeat r m h = subst (λ (a : Seated). CanHold a) (sym r.1.1) h
holds_unsettled old new seat left client.MailboxFull r m h = absurd r
holds_unsettled old new seat left client.TooManySeats r m h = absurd r
holds_unsettled old new seat left (client.Core why) r m h = absurd r
holds_unsettled old new seat left client.NoMemory r m h = absurd (m refl)

-- whatever a settling answers
pub holds_either : {A : Type 0} (r : Result A ClientError) (old new : Locked) (seat left : Seated)
    → OnOk r (settling.Settles old seat new left) → IfErr r (λ e. settling.RefusesSettle old seat e new left)
    → IfErr r (λ e. e ≢ client.NoMemory) → CanHold seat → CanHold left
holds_either (Ok x) old new seat left made refused memory h = holds_settled old new seat left made h
holds_either (Err e) old new seat left made refused memory h =
    holds_unsettled old new seat left e refused memory h

-- new seats can hold something
new_holds : (n : ℕ) → 0 < min (max 1 n) MAX_CAPACITY
new_holds n = omega arith

pub all_hold : (number first : ℕ) (rings : List ℕ) → All CanHold (seats_from number first rings)
all_hold number first [] = λ k d lt. absurd (omega arith)
all_hold number first (capacity ∷ rest) =
    All-cons CanHold (record {
      client = number;
      number = first;
      ring = record { items = []; capacity = min (max 1 capacity) MAX_CAPACITY };
    }) (seats_from number (first + 1) rest) (new_holds capacity) (all_hold number (first + 1) rest)

-- ---- items that are taken out

-- the seat is open still, and can hold something
module _ {old mid : Locked} {p q : Seated} {ts us : List Item} (t : TakesOut old p ts mid q us) where
  still_open : IsOpen mid t.after q (without_first t.handed t.lane)
  still_open =
      let was = lane_split (p.client == old.number) (lane_of t.before.lanes p.number) t.lane t.is_open.own in
      let client : q.client ≡ p.client = ap (λ (x : Seated). x.client) t.kept in
      let number : mid.number ≡ old.number = ap (λ (l : Locked). l.number) t.locked in
      let place : q.number ≡ p.number = ap (λ (x : Seated). x.number) t.kept in
      let lane : Option Line = Some (without_first t.handed t.lane) in
      record {
        held = ap (λ (l : Locked). l.held) t.locked;
        own =
            lane_there (q.client == mid.number) (lane_of t.after.lanes q.number)
            (without_first t.handed t.lane)
            (ap (λ k. k == mid.number) client ∙ ap (λ k. p.client == k) number ∙ was.0)
            (ap (lane_of t.after.lanes) place ∙ t.lanes p.number
            ∙ ap (λ b. if b then lane else lane_of t.before.lanes p.number) (same_number p.number));
      }

  pub still_seated : IsSeated mid q
  still_seated = (t.after, without_first t.handed t.lane, still_open)

  pub still_holds : CanHold p → CanHold q
  still_holds h = subst (λ (a : Seated). CanHold a) (sym t.kept) h

-- what the seat's lane is, by two looks at it
same_lane : (locked : Locked) (seat : Seated) (h k : Held) (l m : Line) → IsOpen locked h seat l
    → IsOpen locked k seat m → (h ≡ k) × (l ≡ m)
same_lane locked seat h k l m a b =
    let ha : locked.held ≡ Some h = a.held in
    let hb : locked.held ≡ Some k = b.held in
    let same : h ≡ k = cc in
    let la : own_lane locked k seat ≡ Some l = subst (λ (x : Held). own_lane locked x seat ≡ Some l) same a.own in
    let lb : own_lane locked k seat ≡ Some m = b.own in
    let both : Some l ≡ Some m = sym la ∙ lb in
    (same, cc)

-- items are taken out, and then more
pub out_twice : (old mid new : Locked) (p q r : Seated) (ts us vs : List Item) → TakesOut old p ts mid q us
    → TakesOut mid q us new r vs → TakesOut old p ts new r vs
out_twice old mid new p q r ts us vs a b =
    let same = same_lane mid q a.after b.before (without_first a.handed a.lane) b.lane (still_open a) b.is_open in
    let place : q.number ≡ p.number = ap (λ (x : Seated). x.number) a.kept in
    record {
      before = a.before;
      lane = a.lane;
      is_open = a.is_open;
      handed = a.handed + b.handed;
      after = b.after;
      locked = b.locked ∙ ap (λ (l : Locked). record l { held = Some b.after }) a.locked;
      core = b.core ∙ ap (λ (h : Held). h.core) (sym same.0) ∙ a.core;
      lanes = λ n.
          changed_twice (p.number == n) (lane_of b.after.lanes n) (lane_of a.after.lanes n)
          (lane_of a.before.lanes n) (Some (without_first b.handed b.lane)) (Some (without_first a.handed a.lane))
          (Some (without_first (a.handed + b.handed) a.lane))
          (b.lanes n
          ∙ ap (λ k. if k == n then Some (without_first b.handed b.lane) else lane_of b.before.lanes n) place
          ∙ ap (λ (h : Held). if p.number == n then Some (without_first b.handed b.lane) else lane_of h.lanes n)
          (sym same.0))
          (a.lanes n)
          (ap (λ (l : Line). Some (without_first b.handed l)) (sym same.1)
          ∙ ap Some (handed_on a.handed b.handed a.lane));
      kept = b.kept ∙ ap (λ (x : Seated). record x { ring = record x.ring { items = r.ring.items } }) a.kept;
      items =
          b.items
          ∙ ap (λ (l : Line). (us ++ q.ring.items) ++ take b.handed l.waiting) (sym same.1)
          ∙ ap (λ xs. xs ++ take b.handed (drop a.handed a.lane.waiting)) a.items
          ∙ append_assoc (ts ++ p.ring.items) (take a.handed a.lane.waiting)
          (take b.handed (drop a.handed a.lane.waiting))
          ∙ ap (λ xs. (ts ++ p.ring.items) ++ xs) (take_on a.handed b.handed a.lane.waiting);
    }

as_kept : (p q : Seated) (is : List Item) → q ≡ record p { ring = record p.ring { items = is } }
    → q ≡ record p { ring = record p.ring { items = q.ring.items } }
as_kept p q is e =
    subst (λ (x : Seated). x ≡ record p { ring = record p.ring { items = x.ring.items } }) (sym e) refl

-- the ring gets what waits
pub out_settled : (old mid : Locked) (p q : Seated) (ts : List Item) → settling.Settles old p mid q
    → TakesOut old p ts mid q ts
out_settled old mid p q ts s =
    let n : ℕ = due p.ring s.hands.lane in
    let got : List Item = p.ring.items ++ take n s.hands.lane.waiting in
    let held : q ≡ record p { ring = record p.ring { items = got } } =
    s.seated ∙ ap (λ (r : Ring). record p { ring = r }) s.hands.ring in
    record {
      before = s.before;
      lane = s.hands.lane;
      is_open = record {
        held = s.held;
        own =
            lane_there (p.client == old.number) (lane_of s.before.lanes p.number) s.hands.lane
            (ap (λ k. p.client == k) (sym s.own) ∙ same_number p.client) s.hands.is_open;
      };
      handed = n;
      after = s.after;
      locked = s.locked;
      core = s.hands.core;
      lanes = s.hands.lanes;
      kept = as_kept p q got held;
      items =
          ap (λ (x : Seated). ts ++ x.ring.items) held
          ∙ sym (append_assoc ts p.ring.items (take n s.hands.lane.waiting));
    }

-- and then its first item is taken out, if there is one
pub out_first : (old mid : Locked) (p q left : Seated) (ts us : List Item) → settling.Settles old p mid q
    → left ≡ record q { ring = record q.ring { items = drop 1 q.ring.items } } → us ≡ ts ++ take 1 q.ring.items
    → TakesOut old p ts mid left us
out_first old mid p q left ts us s is moved =
    let t = out_settled old mid p q ts s in
    record {
      before = t.before;
      lane = t.lane;
      is_open = t.is_open;
      handed = t.handed;
      after = t.after;
      locked = t.locked;
      core = t.core;
      lanes = t.lanes;
      kept =
          as_kept p left (drop 1 q.ring.items)
          (is ∙ ap (λ (x : Seated). record x { ring = record x.ring { items = drop 1 q.ring.items } }) t.kept);
      items =
          ap (λ xs. xs ++ left.ring.items) moved
          ∙ ap (λ (x : Seated). (ts ++ take 1 q.ring.items) ++ x.ring.items) is
          ∙ append_assoc ts (take 1 q.ring.items) (drop 1 q.ring.items)
          ∙ ap (λ xs. ts ++ xs) (take-append-drop 1 q.ring.items) ∙ t.items;
    }

-- where there is none, all is taken out
pub out_none : (old mid : Locked) (p q left : Seated) (ts us : List Item) → settling.Settles old p mid q
    → left ≡ record q { ring = record q.ring { items = drop 1 q.ring.items } } → us ≡ ts ++ take 1 q.ring.items
    → q.ring.items ≡ [] → CanHold p → TakesAll old p ts mid left us
unfolding out_settled out_first
out_none old mid p q left ts us s is moved empty can_hold = record {
  takes = out_first old mid p q left ts us s is moved;
  ring = ap (λ (x : Seated). x.ring.items) is ∙ ap (λ (xs : List Item). drop 1 xs) empty;
  lane = nothing_due p.ring.items s.hands.lane.waiting p.ring.capacity can_hold
      (sym (ap (λ (r : Ring). r.items) s.hands.ring) ∙ ap (λ (a : Seated). a.ring.items) (sym s.seated) ∙ empty);
}

-- a seat that is open gets what waits
pub open_settles : (old mid : Locked) (p left : Seated) (e : ClientError) → IsSeated old p
    → settling.RefusesSettle old p e mid left → e ≢ client.NoMemory → ⊥
open_settles old mid p left client.Failed o r m =
    let held : old.held ≡ Some o.0 = o.2.held in let none : old.held ≡ None = r.0 in cc
open_settles old mid p left client.WrongSeat o r m =
    let held : old.held ≡ Some o.0 = o.2.held in
    let again : old.held ≡ Some r.0.before = r.0.held in
    let same : o.0 ≡ r.0.before = cc in
    let own : own_lane old r.0.before p ≡ Some o.1 =
    subst (λ (h : Held). own_lane old h p ≡ Some o.1) same o.2.own in
    let none : own_lane old r.0.before p ≡ None = r.0.none in
    cc
open_settles old mid p left client.MailboxFull o r m = r
open_settles old mid p left client.TooManySeats o r m = r
open_settles old mid p left (client.Core why) o r m = r
open_settles old mid p left client.NoMemory o r m = m refl

-- ---- so far

-- the seat is open and can hold something, and nothing or some items are taken out
abbrev pub SoFar : Locked → Seated → List Item → Locked → Seated → List Item → Type 0
SoFar old p ts new q us =
    IsSeated new q × CanHold q × (IsUntouched old p ts new q us ⊎ TakesOut old p ts new q us)

pub far_first : (old : Locked) (p : Seated) (ts : List Item) → IsFull old p → CanHold p → SoFar old p ts old p ts
far_first old p ts full h = ((full.before, full.lane, full.is_open), h, inl (refl, refl, refl))

some_more : (old mid new : Locked) (p q r : Seated) (ts us vs : List Item)
    → IsUntouched old p ts mid q us ⊎ TakesOut old p ts mid q us → TakesOut mid q us new r vs
    → TakesOut old p ts new r vs
some_more old mid new p q r ts us vs (inl same) t =
    subst (λ (x : Locked). TakesOut x p ts new r vs) same.0
    (subst (λ (y : Seated). TakesOut mid y ts new r vs) same.1
    (subst (λ (zs : List Item). TakesOut mid q zs new r vs) same.2 t))
some_more old mid new p q r ts us vs (inr a) t = out_twice old mid new p q r ts us vs a t

pub far_more : (old mid new : Locked) (p q r : Seated) (ts us vs : List Item) → SoFar old p ts mid q us
    → TakesOut mid q us new r vs → SoFar old p ts new r vs
far_more old mid new p q r ts us vs far t =
    (still_seated t, still_holds t far.1, inr (some_more old mid new p q r ts us vs far.2 t))

all_more : (old mid new : Locked) (p q r : Seated) (ts us vs : List Item)
    → IsUntouched old p ts mid q us ⊎ TakesOut old p ts mid q us → TakesAll mid q us new r vs
    → TakesAll old p ts new r vs
unfolding out_twice
all_more old mid new p q r ts us vs (inl same) all =
    subst (λ (x : Locked). TakesAll x p ts new r vs) same.0
    (subst (λ (y : Seated). TakesAll mid y ts new r vs) same.1
    (subst (λ (zs : List Item). TakesAll mid q zs new r vs) same.2 all))
all_more old mid new p q r ts us vs (inr a) all =
    let b = all.takes in
    let same = same_lane mid q a.after b.before (without_first a.handed a.lane) b.lane (still_open a) b.is_open in
    let left : length a.lane.waiting - a.handed ≡ length b.lane.waiting =
    sym (length-drop a.handed a.lane.waiting) ∙ ap (λ (l : Line). length l.waiting) same.1 in
    let most : length b.lane.waiting ≤ b.handed = all.lane in
    record {
      takes = out_twice old mid new p q r ts us vs a b;
      ring = all.ring;
      lane = omega arith;
    }

pub far_all : (old mid new : Locked) (p q r : Seated) (ts us vs : List Item) → SoFar old p ts mid q us
    → TakesAll mid q us new r vs → TakesAll old p ts new r vs
far_all old mid new p q r ts us vs far all = all_more old mid new p q r ts us vs far.2 all

pub far_lacks : (old mid : Locked) (p q : Seated) (ts us : List Item) (e : ClientError) → IsFull old p
    → SoFar old p ts mid q us → e ≡ client.NoMemory → LacksRoom old p ts e mid q us
far_lacks old mid p q ts us e full far is = record { memory = is; full = full; some = far.2 }

pub far_lacks_more : (old mid new : Locked) (p q r : Seated) (ts us vs : List Item) (e : ClientError)
    → IsFull old p → SoFar old p ts mid q us → TakesOut mid q us new r vs → e ≡ client.NoMemory
    → LacksRoom old p ts e new r vs
far_lacks_more old mid new p q r ts us vs e full far t is =
    record { memory = is; full = full; some = inr (some_more old mid new p q r ts us vs far.2 t) }

-- ---- a call

-- a ring from which all is taken out has room for a receipt
not_full : (old mid new : Locked) (p q left : Seated) (ts us : List Item) (c : Call) → TakesAll old p ts mid q us
    → CanHold q → calls.RefusesCall mid q c client.MailboxFull new left → ⊥
not_full old mid new p q left ts us c all can_hold r =
    let t = all.takes in
    let same = same_lane mid q t.after r.0 (without_first t.handed t.lane) r.1 (still_open t) r.2 in
    let waits : length r.1.waiting ≡ 0 =
    ap (λ (l : Line). length l.waiting) (sym same.1)
    ∙ ap (λ (xs : List Item). length xs) (drop_all t.handed t.lane.waiting all.lane) in
    let holds : length q.ring.items ≡ 0 = ap (λ (xs : List Item). length xs) all.ring in
    let lacks : q.ring.capacity - length q.ring.items ≤ length r.1.waiting = r.3 in
    let some : 0 < q.ring.capacity = can_hold in
    absurd (omega arith)

pub full_made : (old mid new : Locked) (p q left : Seated) (ts us : List Item) (c : Call) (done : Done)
    → IsFull old p → TakesAll old p ts mid q us → calls.MakesCall mid q c done new left
    → MakesCall old p ts c done new left us
full_made old mid new p q left ts us c done full all made =
    record { shared = mid; wide = q; room = inr (full, all); made = made }

pub full_refused : (old mid new : Locked) (p q left : Seated) (ts us : List Item) (c : Call) (why : ClientError)
    → IsFull old p → CanHold p → TakesAll old p ts mid q us → calls.RefusesCall mid q c why new left
    → RefusesCall old p ts c why new left us
full_refused old mid new p q left ts us c why full can_hold all refused = inl (record {
  shared = mid;
  wide = q;
  room = inr (full, all);
  refused = refused;
  not_full = λ is.
      not_full old mid new p q left ts us c all (still_holds all.takes can_hold)
      (subst (λ e. calls.RefusesCall mid q c e new left) is refused);
})

pub plain_made : (old new : Locked) (p left : Seated) (ts : List Item) (c : Call) (done : Done)
    → calls.MakesCall old p c done new left → MakesCall old p ts c done new left ts
plain_made old new p left ts c done made =
    record { shared = old; wide = p; room = inl (refl, refl, refl); made = made }

pub plain_refused : (old new : Locked) (p left : Seated) (ts : List Item) (c : Call) (why : ClientError)
    → why ≢ client.MailboxFull → calls.RefusesCall old p c why new left → RefusesCall old p ts c why new left ts
plain_refused old new p left ts c why other refused = inl (record {
  shared = old;
  wide = p;
  room = inl (refl, refl, refl);
  refused = refused;
  not_full = other;
})

-- a call that finds no room: the seat is full, and nothing is changed
pub found_full : (old new : Locked) (p left : Seated) (c : Call)
    → calls.RefusesCall old p c client.MailboxFull new left → IsFull old p × (new ≡ old) × (left ≡ p)
found_full old new p left c r =
    (record { before = r.0; lane = r.1; is_open = r.2; full = r.3 }, r.4.0, r.4.1)

-- so what is made of them is made of what was
pub full_made_of : (old mid new : Locked) (p q left : Seated) (ts us : List Item) (c : Call) (done : Done)
    → calls.RefusesCall old p c client.MailboxFull mid q → MakesCall mid q ts c done new left us
    → MakesCall old p ts c done new left us
full_made_of old mid new p q left ts us c done r made =
    subst (λ (x : Locked). MakesCall x p ts c done new left us) r.4.0
    (subst (λ (y : Seated). MakesCall mid y ts c done new left us) r.4.1 made)

pub full_refused_of : (old mid new : Locked) (p q left : Seated) (ts us : List Item) (c : Call) (why : ClientError)
    → calls.RefusesCall old p c client.MailboxFull mid q → RefusesCall mid q ts c why new left us
    → RefusesCall old p ts c why new left us
full_refused_of old mid new p q left ts us c why r refused =
    subst (λ (x : Locked). RefusesCall x p ts c why new left us) r.4.0
    (subst (λ (y : Seated). RefusesCall mid y ts c why new left us) r.4.1 refused)

pub full_found : (old mid : Locked) (p q : Seated) (c : Call)
    → calls.RefusesCall old p c client.MailboxFull mid q → IsFull mid q
full_found old mid p q c r =
    let full = (found_full old mid p q c r).0 in
    subst (λ (x : Locked). IsFull x q) (sym r.4.0) (subst (λ (y : Seated). IsFull old y) (sym r.4.1) full)

-- ---- what the ring of a seat can hold stays, whatever a call answers

room_holds : (old new : Locked) (p q : Seated) (ts us : List Item)
    → IsUntouched old p ts new q us ⊎ (IsFull old p × TakesAll old p ts new q us) → CanHold p → CanHold q
room_holds old new p q ts us (inl same) h = subst (λ (a : Seated). CanHold a) (sym same.1) h
room_holds old new p q ts us (inr all) h = still_holds all.1.takes h

some_holds : (old new : Locked) (p q : Seated) (ts us : List Item)
    → IsUntouched old p ts new q us ⊎ TakesOut old p ts new q us → CanHold p → CanHold q
some_holds old new p q ts us (inl same) h = subst (λ (a : Seated). CanHold a) (sym same.1) h
some_holds old new p q ts us (inr t) h = still_holds t h

refused_holds : (old new : Locked) (p left : Seated) (ts us : List Item) (c : Call) (e : ClientError)
    → RefusesCall old p ts c e new left us → CanHold p → CanHold left
refused_holds old new p left ts us c e (inl r) h =
    holds_refused r.shared new r.wide left c e r.refused (room_holds old r.shared p r.wide ts us r.room h)
refused_holds old new p left ts us c e (inr r) h = some_holds old new p left ts us r.some h

pub called_holds : (r : Result Done ClientError) (old new : Locked) (p left : Seated) (ts us : List Item) (c : Call)
    → IfOk r (λ done. MakesCall old p ts c done new left us) → IfErr r (λ e. RefusesCall old p ts c e new left us)
    → CanHold p → CanHold left
called_holds (Ok done) old new p left ts us c made refused h =
    holds_made made.shared new made.wide left c done made.made
    (room_holds old made.shared p made.wide ts us made.room h)
called_holds (Err e) old new p left ts us c made refused h = refused_holds old new p left ts us c e refused h

-- ---- the next item

pub looked_empty : (p : OpenSeat) (seat : Seated) (ts : List Item) → p.taken ≡ []
    → seat ≡ record p.seat { ring = record p.seat.ring { items = drop 1 p.seat.ring.items } }
    → ts ≡ take 1 p.seat.ring.items → record p { seat = seat; taken = ts } ≡ looked p
looked_empty p seat ts empty is moved =
    subst (λ (xs : List Item). record p { seat = seat; taken = ts } ≡ looked (record p { taken = xs })) (sym empty)
    (λ i. record p { seat = is i; taken = moved i })

pub looked_there : (p : OpenSeat) → (p.taken ≡ [] → ⊥) → p ≡ looked p
looked_there p there = some p.taken refl there
  where
    some : (xs : List Item) → p.taken ≡ xs → (xs ≡ [] → ⊥) → p ≡ looked (record p { taken = xs })
    some [] is none = absurd (none refl)
    some (x ∷ xs) is none = λ i. record p { taken = is i }
