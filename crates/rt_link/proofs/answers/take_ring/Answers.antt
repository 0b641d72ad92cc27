use Rattle.std.proofs.Common.{◌≡◌, ◌∙◌, Some, None, Err, IfErr, drop, ap, sym, subst, rules}
use Rattle.std.specs.List.{fold, slice_get}
use Rattle.std.specs.Option.{option_map}
use Rattle.rt_mail.specs.Mailbox.{Known, known_of}
use Rattle.rt_mail.specs.Mirrors.{Takes}
use Rattle.rt_client.specs.Calls.{Seated}
use Rattle.rt_client.specs.Delivery.{emptied}
use Rattle.rt_link.specs.Answering.{tallied, IsSameSeat}
use Rattle.rt_link.proofs.Told.{none_left, counted_first, known_first, as_it_was, gives_up, same_but_ring}
use Rattle.rt_link.proofs.answers.take_ring.Goals as goal

pub loop-item-preserved : goal.loop-item-preserved
loop-item-preserved c =
    let s = c.loop-item.seat in
    let item = c.in-Some.item in
    let first : slice_get s.ring.items 0 ≡ Some item = search rules in
    let ring : c.next.new.self ≡ record s { ring = record (s.ring) { items = drop 1 s.ring.items } } = c.next.ensures.rest in
    let told = c.in_ok-take.ensures in
    let counted = counted_first c.loop-item.has s.ring.items item first in
    let known = known_first c.loop-item.heard c.take.new.self told.0 s.ring.items item told.1 told.2 first in (
      ap (λ (x : Seated). fold tallied c.tallied-has.result x.ring.items) ring ∙ ap (λ a. fold tallied a (drop 1 s.ring.items)) c.tallied-has.ensures ∙ counted ∙ c.loop-item.invariant.0,
      ap (λ (x : Seated). option_map (λ (z : Known). known_of z x.ring.items) c.take.new.self) ring ∙ known ∙ c.loop-item.invariant.1,
      ap emptied ring ∙ c.loop-item.invariant.2,
    )

pub returns-in_err-take-clause-failed : goal.returns-in_err-take-clause-failed
returns-in_err-take-clause-failed c =
    let s = c.loop-item.seat in
    let why = c.in_err-take.field-0.0 in
    let told : Takes c.loop-item.heard c.in-Some.item (Err why) c.take.new.self = c.in_err-take.ensures in
    let ring : c.next.new.self ≡ record s { ring = record (s.ring) { items = drop 1 s.ring.items } } = c.next.ensures.rest in
    let is : c.from_residual.result ≡ Err why = search rules in
    subst (λ r. IfErr r (λ _. (c.take.new.self ≡ None) × IsSameSeat c.args.seat.now c.next.new.self)) (sym is) (
      gives_up c.loop-item.heard c.take.new.self c.in-Some.item why told,
      same_but_ring c.args.seat.now c.next.new.self (ap emptied ring ∙ c.loop-item.invariant.2),
    )

pub returns-clause-counted : goal.returns-clause-counted
returns-clause-counted c =
    let none = none_left c.loop-item.seat.ring.items (search rules) in
    sym (ap (fold tallied c.loop-item.has) none) ∙ c.loop-item.invariant.0

pub returns-clause-knows : goal.returns-clause-knows
returns-clause-knows c =
    let none = none_left c.loop-item.seat.ring.items (search rules) in
    as_it_was c.loop-item.heard
    ∙ sym (ap (λ xs. option_map (λ (z : Known). known_of z xs) c.loop-item.heard) none)
    ∙ c.loop-item.invariant.1

pub returns-clause-seat : goal.returns-clause-seat
returns-clause-seat c =
    let s = c.loop-item.seat in
    let none = none_left s.ring.items (search rules) in
    c.next.ensures.rest
    ∙ ap (λ xs. record s { ring = record (s.ring) { items = drop 1 xs } }) none
    ∙ c.loop-item.invariant.2
