use Rattle.std.proofs.Common.{◌≡◌, Some, None, Ok, Err, refl, subst, rules, of_calls}
use Rattle.std.specs.Fn.{CalledAt}
use Rattle.std.specs.List.{slice_get}
use Rattle.std.proofs.iter.Next.{called}
use Rattle.rt_client.proofs.Given.{all_given, more_came, nothing_given, one_given}
use Rattle.rt_client.proofs.seat.Seat.for_each.Goals as goal

pub loop-init : goal.loop-init
loop-init g c = (nothing_given g.F.FnMut c.args.f c.args.self.now, c.requires.callable)

pub loop-preserved : goal.loop-preserved
loop-preserved g c =
    let item = c.in-Some-next.item in
    let here = more_came g.F.FnMut c.args.f c.args.self.now c.loop.f c.loop.self c.wait.new.seat c.in_ok-wait.field-0
    c.loop.invariant.0 c.in_ok-wait.ensures.there in
    let first : slice_get c.wait.new.seat.ring.items 0 ≡ Some item = search rules in
    let fine : c.f-taken.result ≡ Ok tt = search rules in
    let told : CalledAt g.F.FnMut c.loop.f item c.f-taken.result c.f-taken.new.self =
    record { shown = _; shows = refl; called = called g.F.FnMut c.f-taken.ensures refl } in (
      one_given g.F.FnMut c.args.f c.args.self.now c.loop.f c.wait.new.seat c.next-in-loop.new.self item c.f-taken.new.self here first
          (subst (λ r. CalledAt g.F.FnMut c.loop.f item r c.f-taken.new.self) fine told) c.next-in-loop.ensures.rest,
      search of_calls,
    )

pub returns-in_default-clause-given : goal.returns-in_default-clause-given
returns-in_default-clause-given g c =
    let here = more_came g.F.FnMut c.args.f c.args.self.now c.loop.f c.loop.self c.wait.new.seat c.in_ok-wait.field-0
    c.loop.invariant.0 c.in_ok-wait.ensures.there in
    let none : slice_get c.wait.new.seat.ring.items 0 ≡ None = search rules in
    all_given g.F.FnMut c.args.f c.args.self.now c.loop.f c.wait.new.seat c.next-in-loop.new.self here none
    c.next-in-loop.ensures.rest

pub returns-in-Err-clause-given : goal.returns-in-Err-clause-given
returns-in-Err-clause-given g c =
    let item = c.in-Some-next.item in
    let why = c.in-Err.why in
    let is : c.f-taken.result ≡ Err why = search rules in
    let told : CalledAt g.F.FnMut c.loop.f item c.f-taken.result c.f-taken.new.self =
    record { shown = _; shows = refl; called = called g.F.FnMut c.f-taken.ensures refl } in
    record {
      last = c.loop.f;
      between = c.wait.new.seat;
      gave = more_came g.F.FnMut c.args.f c.args.self.now c.loop.f c.loop.self c.wait.new.seat c.in_ok-wait.field-0
          c.loop.invariant.0 c.in_ok-wait.ensures.there;
      item = item;
      first = search rules;
      next = c.f-taken.new.self;
      refused = subst (λ r. CalledAt g.F.FnMut c.loop.f item r c.f-taken.new.self) is told;
      left = c.next-in-loop.ensures.rest;
    }
