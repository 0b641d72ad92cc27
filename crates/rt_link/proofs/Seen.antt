-- What a seat's thread has seen, item by item and round by round.
use Rattle.std.proofs.Common.{rules, ◌≡◌, ◌∙◌, List, [], ◌∷◌, ◌++◌, take, drop, Option, Some, None, inl, inr, refl, sym, ap, subst, append_assoc}
use Rattle.std.specs.Prelude.{◌≢◌}
use mathlib.Core.List.{append-nil}
use Rattle.std.proofs.lemmas.List.Sums.{fold-append}
use Rattle.std.specs.List.{slice_get}
use Rattle.rt_mail.specs.declared.item.Item.{Item}
use Rattle.rt_mail.specs.Lanes.{Ring}
use Rattle.rt_mail.specs.Snapshots.{Known, after_item, after_items}
use Rattle.rt_client.specs.Lanes.{due}
use Rattle.rt_client.specs.Calls.{Seated}
use Rattle.rt_client.specs.Delivery.{emptied, RefusesTurn}
use Rattle.rt_client.specs.declared.error.ClientError.{ClientError}
use Rattle.rt_client.specs.declared.error.ClientError.TheVariants as client
use Rattle.rt_link.specs.Seeing.{Sees, SeesAll, SeesSome, RefusesSeeing}
use Rattle.rt_link.specs.inside.Trials.{IsSettled}

-- ---- the items of a ring

pub first_and_rest : (xs : List Item) (x : Item) → slice_get xs 0 ≡ Some x → xs ≡ x ∷ drop 1 xs
first_and_rest [] x e = absurd (cc)
first_and_rest (y ∷ ys) x e = let head : y ≡ x = cc in ap (λ (z : Item). z ∷ ys) head

-- one more is taken
pub one_on : (all done xs : List Item) (x : Item) → all ≡ done ++ xs → slice_get xs 0 ≡ Some x → all ≡ (done ++ x ∷ []) ++ drop 1 xs
one_on all done xs x are e =
    are ∙ ap (λ (zs : List Item). done ++ zs) (first_and_rest xs x e) ∙ sym (append_assoc done (x ∷ []) (drop 1 xs))

pub seen_on : (had now new : Known) (done : List Item) (x : Item) → now ≡ after_items had done → new ≡ after_item now x
    → new ≡ after_items had (done ++ x ∷ [])
seen_on had now new done x is after =
    after ∙ ap (λ (k : Known). after_item k x) is ∙ sym (fold-append after_item had done (x ∷ []))

-- none is left
pub all_done : (all done xs : List Item) → all ≡ done ++ xs → xs ≡ [] → done ≡ all
all_done all done xs are none = sym (are ∙ ap (λ (zs : List Item). done ++ zs) none ∙ append-nil done)

-- memory lacks for one of the ring
pub lost_one : (old new : Seated) (had has : Known) (done xs : List Item) (x : Item) → old.ring.items ≡ done ++ xs → slice_get xs 0 ≡ Some x
    → has ≡ after_items had done → new ≡ record old { ring = record old.ring { items = drop 1 xs } } → SeesSome old had new has
lost_one old new had has done xs x are e is left = record {
  came = [];
  first = done;
  lost = x;
  rest = drop 1 xs;
  items = append-nil old.ring.items ∙ are ∙ ap (λ (zs : List Item). done ++ zs) (first_and_rest xs x e);
  seen = is;
  seat = left;
}

-- ---- one round

-- before the first
pub nothing_seen : (s : Seated) (k : Known) → Sees s k s k
nothing_seen s k = inl (refl, refl)

-- the seat is not settled, and nothing is seen
pub not_settled : (had left : Seated) (k : Known) (why : ClientError) → RefusesTurn had why left → why ≢ client.NoMemory → RefusesSeeing had k why left k
not_settled had left k client.Failed t other = inl (t, refl)
not_settled had left k client.WrongSeat t other = inl (t, refl)
not_settled had left k client.MailboxFull t other = t
not_settled had left k client.TooManySeats t other = t
not_settled had left k (client.Core why) t other = t
not_settled had left k client.NoMemory t other = absurd (other refl)

-- the seat is settled, and then all that its ring holds is taken
pub all_seen : (old mid new : Seated) (had has : Known) → IsSettled old mid → has ≡ after_items had mid.ring.items → new ≡ emptied mid → SeesAll old had new has
all_seen old mid new had has s is left =
    let lane = s.settles.hands.lane in
    let came = take (due old.ring lane) lane.waiting in
    let seated : mid ≡ record old { ring = s.settles.ring } = s.settles.seated in
    let ring = s.settles.hands.ring in
    let items : mid.ring.items ≡ old.ring.items ++ came = ap (λ (x : Seated). x.ring.items) seated ∙ ap (λ (g : Ring). g.items) ring in
    record {
      came = came;
      seen = is ∙ ap (after_items had) items;
      seat = left ∙ ap emptied seated ∙ ap (λ (g : Ring). emptied (record old { ring = g })) ring;
    }

-- or some of it
pub some_seen : (old mid new : Seated) (had has : Known) → IsSettled old mid → SeesSome mid had new has → SeesSome old had new has
some_seen old mid new had has s t =
    let lane = s.settles.hands.lane in
    let came = take (due old.ring lane) lane.waiting in
    let seated : mid ≡ record old { ring = s.settles.ring } = s.settles.seated in
    let ring = s.settles.hands.ring in
    let items : mid.ring.items ≡ old.ring.items ++ came = ap (λ (x : Seated). x.ring.items) seated ∙ ap (λ (g : Ring). g.items) ring in
    record {
      came = came ++ t.came;
      first = t.first;
      lost = t.lost;
      rest = t.rest;
      items = sym (append_assoc old.ring.items came t.came) ∙ sym (ap (λ (zs : List Item). zs ++ t.came) items) ∙ t.items;
      seen = t.seen;
      seat =
          t.seat
          ∙ ap (λ (x : Seated). record x { ring = record x.ring { items = t.rest } }) seated
          ∙ ap (λ (g : Ring). record old { ring = record g { items = t.rest } }) ring;
    }

-- ---- round by round

-- all of one round, and then all of the next
all_on : (s0 s1 s2 : Seated) (k0 k1 k2 : Known) → SeesAll s0 k0 s1 k1 → SeesAll s1 k1 s2 k2 → SeesAll s0 k0 s2 k2
all_on s0 s1 s2 k0 k1 k2 h t =
    let empty : s1.ring.items ≡ [] = ap (λ (s : Seated). s.ring.items) h.seat in
    let first = s0.ring.items ++ h.came in
    record {
      came = h.came ++ t.came;
      seen =
          t.seen
          ∙ ap (λ (zs : List Item). after_items k1 (zs ++ t.came)) empty
          ∙ ap (λ (k : Known). after_items k t.came) h.seen
          ∙ sym (fold-append after_item k0 first t.came)
          ∙ ap (after_items k0) (append_assoc s0.ring.items h.came t.came);
      seat = t.seat ∙ ap emptied h.seat;
    }

-- some rounds, and then one more
pub all_after : (s0 s1 s2 : Seated) (k0 k1 k2 : Known) → Sees s0 k0 s1 k1 → SeesAll s1 k1 s2 k2 → SeesAll s0 k0 s2 k2
all_after s0 s1 s2 k0 k1 k2 (inl same) t =
    subst (λ (s : Seated). SeesAll s k0 s2 k2) same.0 (subst (λ (k : Known). SeesAll s1 k s2 k2) same.1 t)
all_after s0 s1 s2 k0 k1 k2 (inr h) t = all_on s0 s1 s2 k0 k1 k2 h t

sees_on : (s0 s1 s2 : Seated) (k0 k1 k2 : Known) → Sees s0 k0 s1 k1 → Sees s1 k1 s2 k2 → Sees s0 k0 s2 k2
sees_on s0 s1 s2 k0 k1 k2 h (inl same) =
    subst (λ (s : Seated). Sees s0 k0 s k2) (sym same.0) (subst (λ (k : Known). Sees s0 k0 s1 k) (sym same.1) h)
sees_on s0 s1 s2 k0 k1 k2 h (inr t) = inr (all_after s0 s1 s2 k0 k1 k2 h t)

-- some rounds, and then one in which memory lacks
some_on : (s0 s1 s2 : Seated) (k0 k1 k2 : Known) → SeesAll s0 k0 s1 k1 → SeesSome s1 k1 s2 k2 → SeesSome s0 k0 s2 k2
some_on s0 s1 s2 k0 k1 k2 h t =
    let empty : s1.ring.items ≡ [] = ap (λ (s : Seated). s.ring.items) h.seat in
    let done = s0.ring.items ++ h.came in
    let came : t.came ≡ t.first ++ t.lost ∷ t.rest = sym (ap (λ (zs : List Item). zs ++ t.came) empty) ∙ t.items in
    record {
      came = h.came ++ t.came;
      first = done ++ t.first;
      lost = t.lost;
      rest = t.rest;
      items =
          sym (append_assoc s0.ring.items h.came t.came)
          ∙ ap (λ (zs : List Item). done ++ zs) came
          ∙ sym (append_assoc done t.first (t.lost ∷ t.rest));
      seen = t.seen ∙ ap (λ (k : Known). after_items k t.first) h.seen ∙ sym (fold-append after_item k0 done t.first);
      seat = t.seat ∙ ap (λ (s : Seated). record s { ring = record s.ring { items = t.rest } }) h.seat;
    }

some_after : (s0 s1 s2 : Seated) (k0 k1 k2 : Known) → Sees s0 k0 s1 k1 → SeesSome s1 k1 s2 k2 → SeesSome s0 k0 s2 k2
some_after s0 s1 s2 k0 k1 k2 (inl same) t =
    subst (λ (s : Seated). SeesSome s k0 s2 k2) same.0 (subst (λ (k : Known). SeesSome s1 k s2 k2) same.1 t)
some_after s0 s1 s2 k0 k1 k2 (inr h) t = some_on s0 s1 s2 k0 k1 k2 h t

-- a round that is refused
pub refuses_on : (s0 s1 s2 : Seated) (k0 k1 k2 : Known) (why : ClientError) → Sees s0 k0 s1 k1 → RefusesSeeing s1 k1 why s2 k2 → RefusesSeeing s0 k0 why s2 k2
refuses_on s0 s1 s2 k0 k1 k2 client.Failed h r = sees_on s0 s1 s2 k0 k1 k2 h r
refuses_on s0 s1 s2 k0 k1 k2 client.WrongSeat h r = sees_on s0 s1 s2 k0 k1 k2 h r
refuses_on s0 s1 s2 k0 k1 k2 client.MailboxFull h r = r
refuses_on s0 s1 s2 k0 k1 k2 client.TooManySeats h r = r
refuses_on s0 s1 s2 k0 k1 k2 (client.Core why) h r = r
refuses_on s0 s1 s2 k0 k1 k2 client.NoMemory h r = some_after s0 s1 s2 k0 k1 k2 h r
