-- A mirror that takes what a seat takes from its ring follows the one that its lane has, once the ring is empty.
use Rattle.std.proofs.Common.{◌≡◌, false, List, [], ◌∷◌, ◌++◌, take, drop, refl, sym, ap, subst, ◌∙◌, replicate, Some, None}
use mathlib.Core.List.{cons≢nil}
use Rattle.std.specs.List.{slice_get}
use Rattle.std.proofs.lemmas.List.Sums.{fold-append}
use Rattle.rt_world.specs.World.{empty_world, limits_from}
use Rattle.rt_query.specs.Queries.{plain}
use Rattle.rt_mail.specs.declared.item.Item.{Item}
use Rattle.rt_mail.specs.declared.item.Item.TheVariants as item
use Rattle.rt_mail.specs.declared.item.Receipt.TheVariants.{Listened}
use Rattle.rt_mail.specs.Mailbox.{Known, nothing_known, taken, known_of}
use Rattle.rt_mail.specs.Lanes.{Line}
use Rattle.rt_client.specs.Lanes.{new_lane, lane_of, due}
use Rattle.rt_client.specs.Shared.{Held}
use Rattle.rt_client.specs.Calls.{Locked, Seated, own_lane, IsOpen}
use Rattle.rt_client.specs.Opened.{new_locked}
use Rattle.rt_client.specs.laws.Following.{Follows, Trails, TrailsAtFirst, TrailsWhatIsOpened, TrailsAsItSettles, TrailsAsItCalls, TrailsAsItTakes, TrailsAsItMirrors, FollowsInTheEnd, NotLeftOut, NotFirstLast}
use Rattle.rt_client.proofs.Followed.{opened, here, takes}
use Rattle.rt_client.proofs.Foreseen.{lane_new}
use Rattle.rt_client.proofs.PutBy.{settles_put, called_put}

-- ---- a seat that is opened

pub trails_first : TrailsAtFirst
trails_first number seats limits seat own one most none = record {
  before = record { core = Some (empty_world (limits_from limits)); lanes = replicate seats (Some new_lane) };
  lane = new_lane;
  is_open = opened (new_locked number seats limits) (record { core = Some (empty_world (limits_from limits)); lanes = replicate seats (Some new_lane) }) seat new_lane refl own (lane_new seats seat.number one most);
  mirror = ap (λ xs. Some (known_of nothing_known xs)) (sym none);
}

pub trails_opened : TrailsWhatIsOpened
trails_opened old new capacity seat o =
    let n = o.number in
    let own : seat.client ≡ new.number = ap (λ (s : Seated). s.client) o.seated ∙ sym (ap (λ (l : Locked). l.number) o.locked) in
    let number : seat.number ≡ n = ap (λ (s : Seated). s.number) o.seated in
    let none : seat.ring.items ≡ [] = ap (λ (s : Seated). s.ring.items) o.seated in
    record {
      before = o.after;
      lane = new_lane;
      is_open = opened new o.after seat new_lane (ap (λ (l : Locked). l.held) o.locked) own (ap (lane_of o.after.lanes) number ∙ o.lanes n ∙ here n (Some new_lane) (lane_of o.before.lanes n));
      mirror = ap (λ xs. Some (known_of nothing_known xs)) (sym none);
    }

-- ---- what is put into the ring

-- what stood there, and what is put behind it
trails_behind : (locked : Locked) (left : Seated) (known : Known) (had put : List Item) → left.ring.items ≡ had ++ put → Follows locked left (known_of (known_of known had) put)
    → Trails locked left known
trails_behind locked left known had put e k = subst (Follows locked left) (sym (fold-append taken known had put) ∙ ap (known_of known) (sym e)) k

pub trails_settling : TrailsAsItSettles
trails_settling old new seat left known k h =
    let lane = h.hands.lane in
    let put = take (due seat.ring lane) lane.waiting in
    let ring : left.ring.items ≡ seat.ring.items ++ put = ap (λ (s : Seated). s.ring.items) h.seated ∙ ap (λ r. r.items) h.hands.ring in
    trails_behind new left known seat.ring.items put ring (settles_put old new seat left (known_of known seat.ring.items) put k h ring)

pub trails_calls : TrailsAsItCalls
trails_calls old new seat left c done known k h =
    let put = h.called.lane.waiting ++ item.Receipt h.called.receipt ∷ [] in
    let ring : left.ring.items ≡ seat.ring.items ++ put = ap (λ (s : Seated). s.ring.items) h.seated ∙ ap (λ r. r.items) h.called.ring in
    trails_behind new left known seat.ring.items put ring (called_put old new seat left c done (known_of known seat.ring.items) put k h ring)

-- ---- what is taken from it

first_of : (xs : List Item) (x : Item) → slice_get xs 0 ≡ Some x → xs ≡ x ∷ drop 1 xs
first_of [] x e = absurd (cc)
first_of (y ∷ xs) x e = let same : y ≡ x = cc in ap (λ z. z ∷ xs) same

pub trails_taking : TrailsAsItTakes
trails_taking locked seat known first k e = record {
  before = k.before;
  lane = k.lane;
  is_open = record { held = k.is_open.held; own = k.is_open.own };
  mirror = k.mirror ∙ ap (λ xs. Some (known_of known xs)) (first_of seat.ring.items first e);
}

pub trails_mirroring : TrailsAsItMirrors
trails_mirroring locked seat left had has count k m =
    let none : left.ring.items ≡ [] = ap (λ (s : Seated). s.ring.items) m.seat ∙ ap (λ r. r.items) m.takes.ring in
    let is_open : IsOpen locked k.before left k.lane = subst (λ s. IsOpen locked k.before s k.lane) (sym m.seat) (record { held = k.is_open.held; own = k.is_open.own }) in
    record {
      before = k.before;
      lane = k.lane;
      is_open = is_open;
      mirror = k.mirror ∙ ap Some (sym (takes seat left had has count m)) ∙ ap (λ xs. Some (known_of has xs)) (sym none);
    }

pub follows_in_the_end : FollowsInTheEnd
follows_in_the_end locked seat known k none = subst (Follows locked seat) (ap (known_of known) none) k

-- ---- what would not

one_of : {X : Type 0} {x y : X} → Some x ≡ Some y → x ≡ y
one_of e = cc

-- a client with one seat, whose lane has handed over that
abbrev lone_lane : Known → Line
lone_lane known = record { waiting = []; mirror = Some known }

abbrev lone_held : Known → Held
lone_held known = record { core = None; lanes = Some (lone_lane known) ∷ [] }

abbrev lone : Known → Locked
lone known = record { number = 1; ids = None; held = Some (lone_held known); stopped = false }

abbrev chair : List Item → Seated
chair items = record { client = 1; number = 1; ring = record { items = items; capacity = 8 } }

lone_trails : (had : Known) (items : List Item) → Trails (lone (known_of had items)) (chair items) had
lone_trails had items = record {
  before = lone_held (known_of had items);
  lane = lone_lane (known_of had items);
  is_open = record { held = refl; own = refl };
  mirror = refl;
}

lone_mirror : (has : Known) (items : List Item) (known : Known) → Follows (lone has) (chair items) known → has ≡ known
lone_mirror has items known k =
    let held : lone_held has ≡ k.before = one_of k.is_open.held in
    let own : own_lane (lone has) (lone_held has) (chair items) ≡ Some k.lane = subst (λ h. own_lane (lone has) h (chair items) ≡ Some k.lane) (sym held) k.is_open.own in
    let lane : lone_lane has ≡ k.lane = one_of own in
    one_of (ap (λ (l : Line). l.mirror) lane ∙ k.mirror)

-- a request that is settled
abbrev one_request : Known
one_request = record { listeners = []; requests = 1 ∷ [] }

abbrev settles : Item
settles = item.Settled 1 None

pub not_left_out : NotLeftOut
not_left_out leaves =
    let had = one_request in
    let items = settles ∷ [] in
    let same = lone_mirror (known_of had items) [] had (leaves (lone (known_of had items)) (chair items) had settles (lone_trails had items) refl) in
    let none : [] ≡ 1 ∷ [] = ap (λ (k : Known). k.requests) same in
    cons≢nil (sym none)

-- a listener that ends, and one that begins
abbrev one_listener : Known
one_listener = record { listeners = (4, []) ∷ []; requests = [] }

abbrev ends : Item
ends = item.Cancelled 4 []

abbrev begins : Item
begins = item.Receipt (Listened 4 (plain []))

pub not_first_last : NotFirstLast
not_first_last last =
    let had = one_listener in
    let items = ends ∷ begins ∷ [] in
    let same = lone_mirror (known_of had items) items (known_of had (begins ∷ ends ∷ [])) (last (lone (known_of had items)) (chair items) had ends (begins ∷ []) (lone_trails had items) refl) in
    let none : (4, []) ∷ [] ≡ [] = ap (λ (k : Known). k.listeners) same in
    cons≢nil none
