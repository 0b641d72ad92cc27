use Rattle.std.proofs.Common.{◌≡◌, ◌∙◌, ◌∷◌, [], ◌++◌, Some, Err, IfErr, ap, drop, subst, sym, rules}
use Rattle.std.specs.List.{slice_get}
use Rattle.rt_client.specs.Calls.{Seated}
use Rattle.rt_client.specs.Delivery.{emptied}
use Rattle.rt_link.specs.Seeing.{SeesSome}
use Rattle.rt_link.proofs.Seen.{lost_one, one_on, seen_on}
use Rattle.rt_link.proofs.linked.see_ring.Goals as goal

pub loop-item-preserved : goal.loop-item-preserved
loop-item-preserved c =
    let s = c.loop-item.seat in
    let item = c.in-Some.item in
    let done = c.loop-item.invariant.0 in
    let first : slice_get s.ring.items 0 ≡ Some item = search rules in
    let ring : c.next.new.self ≡ record s { ring = record (s.ring) { items = drop 1 s.ring.items } } = c.next.ensures.rest in (
      done ++ item ∷ [],
      one_on c.args.seat.now.ring.items done s.ring.items item c.loop-item.invariant.1 first
          ∙ ap (λ (x : Seated). (done ++ item ∷ []) ++ x.ring.items) (sym ring),
      seen_on c.args.seen.now c.loop-item.seen c.take-taken.new.self done item c.loop-item.invariant.2 c.in_ok-taken.ensures.taken,
      ap emptied ring ∙ c.loop-item.invariant.3,
    )

pub returns-in_err-taken-clause-some : goal.returns-in_err-taken-clause-some
returns-in_err-taken-clause-some c =
    let s = c.loop-item.seat in
    let item = c.in-Some.item in
    let why = c.in_err-taken.field-0.0 in
    let first : slice_get s.ring.items 0 ≡ Some item = search rules in
    let is : c.from_residual.result ≡ Err why = search rules in
    subst (λ r. IfErr r (λ _. SeesSome c.args.seat.now c.args.seen.now c.next.new.self c.take-taken.new.self)) (sym is)
    (lost_one c.args.seat.now c.next.new.self c.args.seen.now c.take-taken.new.self c.loop-item.invariant.0 s.ring.items item
    c.loop-item.invariant.1 first (c.in_err-taken.ensures.unchanged ∙ c.loop-item.invariant.2)
    (c.next.ensures.rest
    ∙ ap (λ (x : Seated). record x { ring = record x.ring { items = drop 1 s.ring.items } }) c.loop-item.invariant.3))
