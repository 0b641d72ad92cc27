-- A seat's items given to a sink, turn by turn.
use Rattle.std.proofs.Common.{◌≡◌, ℕ, suc, ◌+◌, ◌*◌, ◌≤◌, inl, inr, List, [], ◌++◌, length, take, refl, sym, ap, subst, ◌∙◌, append_assoc, add-one, arith}
use Rattle.std.proofs.lemmas.List.{length-append, length-take}
use Rattle.std.proofs.lemmas.List.Sums.{fold-append}
use Rattle.std.specs.List.{fold}
use Rattle.rt_mail.specs.declared.item.Item.{Item}
use Rattle.rt_client.specs.declared.error.ClientError.{ClientError}
use Rattle.rt_client.specs.declared.error.ClientError.TheVariants.{Failed, WrongSeat, MailboxFull, TooManySeats, Core, NoMemory}
use Rattle.rt_client.specs.Lanes.{due}
use Rattle.rt_client.specs.Calls.{Locked, Seated, Keeps}
use Rattle.rt_client.specs.Settling.{RefusesSettle, IsHanded, Comes}
use Rattle.rt_client.specs.Delivery.{emptied, Turns, RefusesTurnOf, RefusesTurn, HandsOut, AfterTurns}
use Rattle.rt_client.proofs.Followed.{opened}

-- ---- one turn

-- what it hands over is no more than the ring can hold
pub turned_once : {S : Type 0} (after : S → Item → S) (locked : Locked) (had : Seated) (old : S) (left : Seated) (new : S)
    → Keeps locked → Turns after locked had old left new → HandsOut after 1 had old left new
turned_once after locked had old left new keeps t =
    let lane = t.settles.hands.lane in
    let came = take (due had.ring lane) lane.waiting in
    let seated : t.between ≡ record had { ring = t.settles.ring } = t.settles.seated in
    let ring = t.settles.hands.ring in
    let handed : IsHanded had came = record {
      locked = locked;
      keeps = keeps;
      before = t.settles.before;
      lane = lane;
      is_open = opened locked t.settles.before had lane t.settles.held t.settles.own t.settles.hands.is_open;
      count = due had.ring lane;
      first = refl;
    } in
    record {
      came = came;
      comes = ([], came, refl, refl, handed);
      fits = omega (arith, length-take (due had.ring lane) lane.waiting);
      sink =
          t.sink
          ∙ ap (λ (s : Seated). fold after old s.ring.items) seated
          ∙ ap (λ r. fold after old r.items) ring;
      seat = t.seat ∙ ap emptied seated ∙ ap (λ r. emptied (record had { ring = r })) ring;
    }

pub unsettled : (old new : Locked) (had : Seated) (why : ClientError) (left : Seated) → RefusesSettle old had why new left → RefusesTurn had why left
unsettled old new had Failed left h = h.1.1
unsettled old new had WrongSeat left h = h.1.1
unsettled old new had MailboxFull left h = h
unsettled old new had TooManySeats left h = h
unsettled old new had (Core why) left h = h
unsettled old new had NoMemory left h = let part = h.4 in (take part.count part.lane.waiting, h.5 ∙ ap (λ r. record had { ring = r }) part.ring)

pub refused_once : (locked : Locked) (had : Seated) (why : ClientError) (left : Seated) → RefusesTurnOf locked had why left → RefusesTurn had why left
refused_once locked had why left h = unsettled locked h.rest had why left h.refused

-- ---- turn by turn

more : (n capacity first rest : ℕ) → first ≤ n * capacity → rest ≤ 1 * capacity → first + rest ≤ (n + 1) * capacity
more n capacity first rest a b = grind arith

-- what the seat's lane hands over doesn't go by its ring
handed_over : (seat : Seated) (items : List Item) → IsHanded (emptied seat) items → IsHanded seat items
handed_over seat items h = record {
  locked = h.locked;
  keeps = h.keeps;
  before = h.before;
  lane = h.lane;
  is_open = record { held = h.is_open.held; own = h.is_open.own };
  count = h.count;
  first = h.first;
}

comes_again : (n : ℕ) (had mid : Seated) (first rest : List Item) → mid ≡ emptied had → Comes n had first → Comes 1 mid rest → Comes (n + 1) had (first ++ rest)
comes_again n had mid first rest same comes one =
    let last : rest ≡ one.1 = one.2 ∙ ap (λ xs. xs ++ one.1) one.3 in
    let handed : IsHanded had one.1 = handed_over had one.1 (subst (λ s. IsHanded s one.1) same one.4) in
    let more : Comes (suc n) had (first ++ rest) = (first, rest, refl, comes, subst (IsHanded had) (sym last) handed) in
    subst (λ k. Comes k had (first ++ rest)) (sym (add-one n)) more

-- one more turn after some turns
hands_again : {S : Type 0} (after : S → Item → S) (n : ℕ) (had : Seated) (old : S) (mid : Seated) (between : S) (left : Seated) (new : S)
    → HandsOut after n had old mid between → HandsOut after 1 mid between left new → HandsOut after (n + 1) had old left new
hands_again after n had old mid between left new h t =
    let empty : mid.ring.items ≡ [] = ap (λ s. s.ring.items) h.seat in
    let fits : length t.came ≤ 1 * had.ring.capacity = subst (λ s. length t.came ≤ 1 * s.ring.capacity) h.seat t.fits in
    record {
      came = h.came ++ t.came;
      comes = comes_again n had mid h.came t.came h.seat h.comes t.comes;
      fits = subst (λ k. k ≤ (n + 1) * had.ring.capacity) (sym (length-append h.came t.came)) (more n had.ring.capacity (length h.came) (length t.came) h.fits fits);
      sink =
          t.sink
          ∙ ap (λ xs. fold after between (xs ++ t.came)) empty
          ∙ ap (λ s. fold after s t.came) h.sink
          ∙ sym (fold-append after old (had.ring.items ++ h.came) t.came)
          ∙ ap (λ xs. fold after old xs) (append_assoc had.ring.items h.came t.came);
      seat = t.seat ∙ ap emptied h.seat;
    }

pub another_turn : {S : Type 0} (after : S → Item → S) (n : ℕ) (had : Seated) (old : S) (mid : Seated) (between : S) (left : Seated) (new : S)
    → AfterTurns after n had old mid between → HandsOut after 1 mid between left new → AfterTurns after (n + 1) had old left new
another_turn after n had old mid between left new (inl same) t =
    inr (omega arith, subst (λ k. HandsOut after (k + 1) had old left new) (sym same.0) (subst (λ s. HandsOut after 1 s old left new) same.1 (subst (λ s. HandsOut after 1 mid s left new) same.2 t)))
another_turn after n had old mid between left new (inr h) t = inr (omega arith, hands_again after n had old mid between left new h.1 t)
