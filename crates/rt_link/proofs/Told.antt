-- What a seat's thread has heard, item by item and round by round.
use Rattle.std.proofs.Common.{rules, ◌≡◌, ◌∙◌, List, [], ◌∷◌, ◌++◌, take, drop, false, Option, Some, None, Err, inl, inr, refl, sym, ap, subst, append_assoc, IsTrue, is_some}
use Rattle.std.specs.Prelude.{◌≢◌}
use mathlib.Core.Bool.{true≢false}
use Rattle.std.proofs.lemmas.List.Sums.{fold-append}
use Rattle.std.specs.List.{fold, slice_get}
use Rattle.std.specs.Option.{option_map}
use Rattle.rt_mail.specs.declared.item.Item.{Item}
use Rattle.rt_mail.specs.Mailbox.{Known, known_of, taken}
use Rattle.rt_mail.specs.Mirrors.{has_failed, Takes}
use Rattle.rt_mail.specs.declared.error.MailError.{MailError}
use Rattle.rt_mail.specs.declared.error.MailError.TheVariants as mail
use Rattle.rt_mail.specs.Lanes.{Ring}
use Rattle.rt_world.specs.declared.step.Call.{Call}
use Rattle.rt_client.specs.Lanes.{due}
use Rattle.rt_client.specs.Calls.{Locked, Seated, handed_back}
use Rattle.rt_client.specs.Delivery.{emptied, RefusesTurn}
use Rattle.rt_client.specs.Settling.{RefusesSettle}
use Rattle.rt_client.specs.declared.shared.Done.{Done}
use Rattle.rt_client.specs.Waiting.{IsDone, IsUnmade}
use Rattle.rt_client.specs.declared.error.ClientError.{ClientError}
use Rattle.rt_client.specs.declared.error.ClientError.TheVariants as client
use Rattle.rt_link.specs.Answering.{tallied, Hears, HearsAll, IsSameSeat, RefusesHearing, IsDoneBehind, IsUnmadeBehind}
use Rattle.rt_link.specs.inside.Trials.{tried_of, IsSettled, Tries}
use Rattle.rt_link.specs.declared.answers.Answered.{Answered}

-- ---- the items of a ring

pub none_left : (xs : List Item) → slice_get xs 0 ≡ None → xs ≡ []
none_left [] e = refl
none_left (x ∷ xs) e = absurd (cc)

-- the first one is counted, and then the others
pub counted_first : (a : Answered) (xs : List Item) (x : Item) → slice_get xs 0 ≡ Some x → fold tallied (tallied a x) (drop 1 xs) ≡ fold tallied a xs
counted_first a [] x e = cc
counted_first a (y ∷ xs) x e = let head : y ≡ x = cc in ap (λ (z : Item). fold tallied (tallied a z) xs) (sym head)

taken_first : (k : Known) (xs : List Item) (x : Item) → slice_get xs 0 ≡ Some x → known_of (taken k x) (drop 1 xs) ≡ known_of k xs
taken_first k [] x e = cc
taken_first k (y ∷ xs) x e = let head : y ≡ x = cc in ap (λ (z : Item). known_of (taken k z) xs) (sym head)

-- the first one is taken, and then the others
pub known_first : (now new : Option Known) (k : Known) (xs : List Item) (x : Item) → now ≡ Some k → new ≡ Some (taken k x) → slice_get xs 0 ≡ Some x
    → option_map (λ (z : Known). known_of z (drop 1 xs)) new ≡ option_map (λ (z : Known). known_of z xs) now
known_first now new k xs x is after e =
    ap (option_map (λ (z : Known). known_of z (drop 1 xs))) after
    ∙ ap Some (taken_first k xs x e)
    ∙ sym (ap (option_map (λ (z : Known). known_of z xs)) is)

-- none is taken
pub as_it_was : (m : Option Known) → m ≡ option_map (λ (z : Known). known_of z []) m
as_it_was None = refl
as_it_was (Some k) = refl

pub gives_up : (m n : Option Known) (x : Item) (why : MailError) → Takes m x (Err why) n → n ≡ None
gives_up m n x mail.Failed t = t.1
gives_up m n x mail.NoMemory t = t.1

pub same_but_ring : (s t : Seated) → emptied t ≡ emptied s → IsSameSeat s t
same_but_ring s t e = (ap (λ (x : Seated). x.client) e, ap (λ (x : Seated). x.number) e)

-- ---- one round

-- before the first
pub nothing_heard : (s : Seated) (m : Option Known) (a : Answered) → Hears s m a s m a
nothing_heard s m a = inl (refl, refl, refl)

pub unsettled : (old new : Locked) (had : Seated) (why : ClientError) (left : Seated) → RefusesSettle old had why new left → RefusesTurn had why left
unsettled old new had client.Failed left h = h.1.1
unsettled old new had client.WrongSeat left h = h.1.1
unsettled old new had client.MailboxFull left h = h
unsettled old new had client.TooManySeats left h = h
unsettled old new had (client.Core why) left h = h
unsettled old new had client.NoMemory left h = let part = h.4 in (take part.count part.lane.waiting, h.5 ∙ ap (λ (r : Ring). record had { ring = r }) part.ring)

-- the seat is not settled, and nothing is heard
pub not_settled : (had left : Seated) (m : Option Known) (a : Answered) (why : ClientError) → RefusesTurn had why left → why ≢ client.NoMemory → RefusesHearing had m a why left m a
not_settled had left m a client.Failed t other = inl (t, refl, refl)
not_settled had left m a client.WrongSeat t other = inl (t, refl, refl)
not_settled had left m a client.MailboxFull t other = t
not_settled had left m a client.TooManySeats t other = t
not_settled had left m a (client.Core why) t other = t
not_settled had left m a client.NoMemory t other = absurd (other refl)

-- the seat is settled, and then all that its ring holds is taken
pub all_heard : (old mid new : Seated) (m n : Option Known) (had has : Answered) → false ≡ has_failed m → IsSettled old mid
    → has ≡ fold tallied had mid.ring.items → n ≡ option_map (λ (z : Known). known_of z mid.ring.items) m → new ≡ emptied mid
    → HearsAll old m had new n has
all_heard old mid new None n had has works s counted knows left = absurd (true≢false (sym works))
all_heard old mid new (Some k) n had has works s counted knows left =
    let lane = s.settles.hands.lane in
    let came = take (due old.ring lane) lane.waiting in
    let seated : mid ≡ record old { ring = s.settles.ring } = s.settles.seated in
    let ring = s.settles.hands.ring in
    let items : mid.ring.items ≡ old.ring.items ++ came = ap (λ (x : Seated). x.ring.items) seated ∙ ap (λ (r : Ring). r.items) ring in
    record {
      came = came;
      known = k;
      works = refl;
      knows = knows ∙ ap (λ (xs : List Item). Some (known_of k xs)) items;
      counted = counted ∙ ap (fold tallied had) items;
      seat = left ∙ ap emptied seated ∙ ap (λ (r : Ring). emptied (record old { ring = r })) ring;
    }

-- the mirror worked before it has failed
pub has_worked : (m : Option Known) → false ≡ has_failed m → IsTrue (is_some m)
has_worked None works = absurd (true≢false (sym works))
has_worked (Some k) works = refl

pub settled_same : (old mid : Seated) → IsSettled old mid → IsSameSeat old mid
settled_same old mid s = (ap (λ (x : Seated). x.client) s.settles.seated, ap (λ (x : Seated). x.number) s.settles.seated)

pub same_on : (a b c : Seated) → IsSameSeat a b → IsSameSeat b c → IsSameSeat a c
same_on a b c s t = (t.0 ∙ s.0, t.1 ∙ s.1)

-- ---- round by round

-- all of one round, and then all of the next
pub all_on : (s0 s1 s2 : Seated) (m0 m1 m2 : Option Known) (a b c : Answered) → HearsAll s0 m0 a s1 m1 b → HearsAll s1 m1 b s2 m2 c → HearsAll s0 m0 a s2 m2 c
all_on s0 s1 s2 m0 m1 m2 a b c h t =
    let empty : s1.ring.items ≡ [] = ap (λ (s : Seated). s.ring.items) h.seat in
    let first = s0.ring.items ++ h.came in
    let same : t.known ≡ known_of h.known first = cc (t.works, h.knows) in
    record {
      came = h.came ++ t.came;
      known = h.known;
      works = h.works;
      knows =
          t.knows
          ∙ ap (λ (zs : List Item). Some (known_of t.known (zs ++ t.came))) empty
          ∙ ap (λ (k : Known). Some (known_of k t.came)) same
          ∙ ap Some (sym (fold-append taken h.known first t.came))
          ∙ ap (λ (zs : List Item). Some (known_of h.known zs)) (append_assoc s0.ring.items h.came t.came);
      counted =
          t.counted
          ∙ ap (λ (zs : List Item). fold tallied b (zs ++ t.came)) empty
          ∙ ap (λ (z : Answered). fold tallied z t.came) h.counted
          ∙ sym (fold-append tallied a first t.came)
          ∙ ap (fold tallied a) (append_assoc s0.ring.items h.came t.came);
      seat = t.seat ∙ ap emptied h.seat;
    }

-- some rounds, and then one more
pub all_after : (s0 s1 s2 : Seated) (m0 m1 m2 : Option Known) (a b c : Answered) → Hears s0 m0 a s1 m1 b → HearsAll s1 m1 b s2 m2 c → HearsAll s0 m0 a s2 m2 c
all_after s0 s1 s2 m0 m1 m2 a b c (inl same) t =
    subst (λ (x : Answered). HearsAll s0 m0 x s2 m2 c) same.2
    (subst (λ (s : Seated). HearsAll s m0 b s2 m2 c) same.0 (subst (λ (m : Option Known). HearsAll s1 m b s2 m2 c) same.1 t))
all_after s0 s1 s2 m0 m1 m2 a b c (inr h) t = all_on s0 s1 s2 m0 m1 m2 a b c h t

pub hears_on : (s0 s1 s2 : Seated) (m0 m1 m2 : Option Known) (a b c : Answered) → Hears s0 m0 a s1 m1 b → Hears s1 m1 b s2 m2 c → Hears s0 m0 a s2 m2 c
hears_on s0 s1 s2 m0 m1 m2 a b c h (inl same) =
    subst (λ (x : Answered). Hears s0 m0 a s2 m2 x) (sym same.2)
    (subst (λ (s : Seated). Hears s0 m0 a s m2 b) (sym same.0) (subst (λ (m : Option Known). Hears s0 m0 a s1 m b) (sym same.1) h))
hears_on s0 s1 s2 m0 m1 m2 a b c h (inr t) = inr (all_after s0 s1 s2 m0 m1 m2 a b c h t)

worked_before : (s t : Seated) (m n : Option Known) (a b : Answered) → Hears s m a t n b → IsTrue (is_some n) → IsTrue (is_some m)
worked_before s t m n a b (inl same) w = subst (λ (x : Option Known). IsTrue (is_some x)) same.1 w
worked_before s t m n a b (inr h) w = subst (λ (x : Option Known). IsTrue (is_some x)) (sym h.works) refl

same_seat : (s t : Seated) (m n : Option Known) (a b : Answered) → Hears s m a t n b → IsSameSeat s t
same_seat s t m n a b (inl same) = (ap (λ (x : Seated). x.client) same.0, ap (λ (x : Seated). x.number) same.0)
same_seat s t m n a b (inr h) = (ap (λ (x : Seated). x.client) h.seat, ap (λ (x : Seated). x.number) h.seat)

-- a round that is refused
pub refuses_on : (s0 s1 s2 : Seated) (m0 m1 m2 : Option Known) (a b c : Answered) (why : ClientError) → Hears s0 m0 a s1 m1 b
    → RefusesHearing s1 m1 b why s2 m2 c → RefusesHearing s0 m0 a why s2 m2 c
refuses_on s0 s1 s2 m0 m1 m2 a b c client.Failed h r = hears_on s0 s1 s2 m0 m1 m2 a b c h r
refuses_on s0 s1 s2 m0 m1 m2 a b c client.WrongSeat h r = hears_on s0 s1 s2 m0 m1 m2 a b c h r
refuses_on s0 s1 s2 m0 m1 m2 a b c client.MailboxFull h r = r
refuses_on s0 s1 s2 m0 m1 m2 a b c client.TooManySeats h r = r
refuses_on s0 s1 s2 m0 m1 m2 a b c (client.Core why) h r = r
refuses_on s0 s1 s2 m0 m1 m2 a b c client.NoMemory h r =
    (worked_before s0 s1 m0 m1 a b h r.0, r.1, same_on s0 s1 s2 (same_seat s0 s1 m0 m1 a b h) r.2)

-- it is never for want of room
pub deaf_is_not_full : (s t : Seated) (m n : Option Known) (a b : Answered) (why : ClientError) → RefusesHearing s m a why t n b → why ≢ client.MailboxFull
deaf_is_not_full s t m n a b client.Failed r = λ e. search rules
deaf_is_not_full s t m n a b client.WrongSeat r = λ e. search rules
deaf_is_not_full s t m n a b client.MailboxFull r = absurd r
deaf_is_not_full s t m n a b client.TooManySeats r = absurd r
deaf_is_not_full s t m n a b (client.Core why) r = absurd r
deaf_is_not_full s t m n a b client.NoMemory r = λ e. search rules

-- ---- a call that is tried

-- a seat that stays as it was
pub hears_still : (s0 s1 s2 : Seated) (m0 m1 : Option Known) (a b : Answered) → Hears s0 m0 a s1 m1 b → s2 ≡ s1 → Hears s0 m0 a s2 m1 b
hears_still s0 s1 s2 m0 m1 a b h same = subst (λ (s : Seated). Hears s0 m0 a s m1 b) (sym same) h

pub done_behind : (s0 s1 s2 : Seated) (m0 m1 : Option Known) (a b : Answered) (c d : Call) (done : Done) → Hears s0 m0 a s1 m1 b → d ≡ c → IsDone s1 d done s2
    → IsDoneBehind s0 m0 a c done s2 m1 b
done_behind s0 s1 s2 m0 m1 a b c d done h same made = record {
  behind = s1;
  hears = h;
  made = subst (λ (x : Call). IsDone s1 x done s2) same made;
}

pub unmade_behind : (s0 s1 s2 : Seated) (m0 m1 : Option Known) (a b : Answered) (c d : Call) (why : ClientError) → Hears s0 m0 a s1 m1 b → d ≡ c
    → IsUnmade s1 d why s2 → IsUnmadeBehind s0 m0 a c why s2 m1 b
unmade_behind s0 s1 s2 m0 m1 a b c d why h same refused = record {
  behind = s1;
  hears = h;
  refused = subst (λ (x : Call). IsUnmade s1 x why s2) same refused;
}

-- one that found no room comes back as it was, and its seat stays as it was
pub tried_again : (old left : Seated) (c : Call) (why : ClientError) (back : Option Call) → IsUnmade old c why left → back ≡ handed_back why c
    → Tries old c (tried_of why back) left
tried_again old left c client.Failed back u is = (u, λ e. search rules)
tried_again old left c client.WrongSeat back u is = (u, λ e. search rules)
tried_again old left c client.MailboxFull None u is = absurd (cc)
tried_again old left c client.MailboxFull (Some b) u is = let same : b ≡ c = cc in (same, u.refused.4.1)
tried_again old left c client.TooManySeats back u is = (u, λ e. search rules)
tried_again old left c (client.Core why) back u is = (u, λ e. search rules)
tried_again old left c client.NoMemory back u is = (u, λ e. search rules)
