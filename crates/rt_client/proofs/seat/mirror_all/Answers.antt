use Rattle.std.proofs.Common.{◌≡◌, Some, Err, IfErr, subst, sym, rules}
use Rattle.std.specs.List.{slice_get}
use Rattle.rt_mail.specs.declared.error.MailError.TheVariants.{NoMemory}
use Rattle.rt_mail.specs.Mailbox.{taken}
use Rattle.rt_mail.specs.Mirrors.{Takes}
use Rattle.rt_client.specs.Delivery.{TakesSome}
use Rattle.rt_client.proofs.Taking.{goes_on, stops, lacks}
use Rattle.rt_client.proofs.seat.mirror_all.Goals as goal

pub loop-item-preserved : goal.loop-item-preserved
loop-item-preserved c =
    let h = c.loop-item.invariant.0 in
    let item = c.in-Some.item in
    let first : slice_get c.loop-item.inbox.items 0 ≡ Some item = search rules in
    let after : c.take.new.self ≡ Some (taken h.known item) = search rules in (
      goes_on c.args.inbox.now c.loop-item.inbox c.next.new.self c.args.mirror.now c.loop-item.mirror c.take.new.self item h.known h first c.next.ensures.rest h.knows after,
      c.loop-item.invariant.1,
    )

pub returns-in_err-take-clause-refused : goal.returns-in_err-take-clause-refused
returns-in_err-take-clause-refused c =
    let h = c.loop-item.invariant.0 in
    let why = c.in_err-take.field-0.0 in
    let told : Takes c.loop-item.mirror c.in-Some.item (Err why) c.take.new.self = c.in_err-take.ensures in
    let none = lacks c.loop-item.mirror c.take.new.self c.in-Some.item why h.known h.knows told in
    let is : c.from_residual.result ≡ Err why = search rules in
    subst (λ r. IfErr r (λ e. e ≡ NoMemory)) (sym is) none.0

pub returns-in_err-take-clause-some : goal.returns-in_err-take-clause-some
returns-in_err-take-clause-some c =
    let h = c.loop-item.invariant.0 in
    let item = c.in-Some.item in
    let why = c.in_err-take.field-0.0 in
    let first : slice_get c.loop-item.inbox.items 0 ≡ Some item = search rules in
    let told : Takes c.loop-item.mirror item (Err why) c.take.new.self = c.in_err-take.ensures in
    let none = lacks c.loop-item.mirror c.take.new.self item why h.known h.knows told in
    let is : c.from_residual.result ≡ Err why = search rules in
    subst (λ r. IfErr r (λ _. TakesSome c.args.inbox.now c.args.mirror.now c.next.new.self c.take.new.self)) (sym is)
    (stops c.args.inbox.now c.loop-item.inbox c.next.new.self c.args.mirror.now c.loop-item.mirror c.take.new.self item h first c.next.ensures.rest none.1)
