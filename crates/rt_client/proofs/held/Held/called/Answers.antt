use Rattle.std.proofs.Common.{◌≡◌, Some, Ok, Err, sym, subst, rules, unwrap_or}
use Rattle.rt_sync.specs.Core.{Applies, world_in}
use Rattle.rt_client.specs.declared.error.ClientError.TheVariants.{NoMemory}
use Rattle.rt_client.specs.Codes.{of_core}
use Rattle.rt_client.specs.Lanes.{lane_of, HasRoom}
use Rattle.rt_client.specs.Shared.{Held}
use Rattle.rt_world.specs.Calls.{step_of}
use Rattle.rt_client.specs.Calls.{LacksMemory, Called, HandsSome, RefusesCalled}
use Rattle.rt_client.specs.Seats.{receipt_with}
use Rattle.rt_client.proofs.Called.{held_of, call_made, call_gave_up, called_refuses, if_no_memory}
use Rattle.rt_client.proofs.Steps.{step_refused}
use Rattle.rt_client.proofs.held.Held.called.Goals as goal

pub returns-in_default-clause-refused : goal.returns-in_default-clause-refused
returns-in_default-clause-refused c =
    called_refuses c.why_uncopied.result c.args.self.now c.args.self.now c.requires.world.0 c.args.seat c.args.call c.args.inbox.now c.requires.world.1 c.requires.room c.why_uncopied.ensures

pub returns-in-Err-clause-refused : goal.returns-in-Err-clause-refused
returns-in-Err-clause-refused c =
    let old : Held = held_of (world_in c.self.inside.core) c.self.inside.lanes in
    let left : Held = held_of (world_in c.apply.new.self) c.self.inside.lanes in
    let ring = c.args.inbox.now in
    let seen : c.args.self.now ≡ old = search rules in
    let is : (world_in c.self.inside.core) ≡ Some c.requires.world.0 = search rules in
    let has : HasRoom c.args.inbox.now (lane_of c.self.inside.lanes c.args.seat) = search rules in
    let step : c.in-Ok.step ≡ step_of c.args.seat c.args.call = search rules in
    let applies : Applies (world_in c.self.inside.core) (step_of c.args.seat c.args.call) (Err c.in-Err.error) (world_in c.apply.new.self) = subst (λ s. Applies (world_in c.self.inside.core) s (Err c.in-Err.error) (world_in c.apply.new.self)) step c.in-Err.ensures.made in
    subst (λ h. RefusesCalled h c.args.seat ring c.args.call c.from.result left ring) (sym seen)
    (subst (λ e. RefusesCalled old c.args.seat ring c.args.call e left ring) (sym c.from.ensures)
    (called_refuses (of_core c.in-Err.error) old left c.requires.world.0 c.args.seat c.args.call ring is has
    (step_refused (world_in c.self.inside.core) (world_in c.apply.new.self) c.self.inside.lanes c.requires.world.0 (step_of c.args.seat c.args.call) c.in-Err.error is applies)))

pub returns-in_err-tell-in-Ok-apply-clause-refused : goal.returns-in_err-tell-in-Ok-apply-clause-refused
returns-in_err-tell-in-Ok-apply-clause-refused c =
    let old : Held = held_of (world_in c.self.inside.core) c.self.inside.lanes in
    let ring = c.args.inbox.now in
    let report = c.in-Ok-apply.field-0 in
    let seen : c.args.self.now ≡ old = search rules in
    let is : (world_in c.self.inside.core) ≡ Some c.requires.world.0 = search rules in
    let step : c.in-Ok.step ≡ step_of c.args.seat c.args.call = search rules in
    let applies : Applies (world_in c.self.inside.core) (step_of c.args.seat c.args.call) (Ok c.in-Ok-apply.field-0) (world_in c.apply.new.self) = subst (λ s. Applies (world_in c.self.inside.core) s (Ok c.in-Ok-apply.field-0) (world_in c.apply.new.self)) step c.in-Ok-apply.ensures.made in
    let has : HasRoom c.args.inbox.now (lane_of c.self.inside.lanes c.args.seat) = search rules in
    let receipt : c.receipt_of-receipt.result ≡ receipt_with (unwrap_or c.in-Ok-apply.field-0.given 0) c.args.call = search rules in
    let why : c.from_residual.result ≡ Err NoMemory = search rules in
    if_no_memory c.from_residual.result _ why
    (subst (λ h. LacksMemory h (step_of c.args.seat c.args.call) × HandsSome h c.args.seat ring c.args.call c.tell.new.inbox) (sym seen)
    (call_gave_up (world_in c.self.inside.core) (world_in c.apply.new.self) c.self.inside.lanes c.requires.world.0 c.args.seat c.args.call report c.receipt_of-receipt.result ring c.tell.new.inbox is applies receipt has c.tell.ensures.ring))

pub returns-in_ok-tell-in-Ok-apply-clause-made : goal.returns-in_ok-tell-in-Ok-apply-clause-made
returns-in_ok-tell-in-Ok-apply-clause-made c =
    let old : Held = held_of (world_in c.self.inside.core) c.self.inside.lanes in
    let left : Held = held_of (world_in c.apply.new.self) c.tell.new.lanes in
    let ring = c.args.inbox.now in
    let report = c.in-Ok-apply.field-0 in
    let seen : c.args.self.now ≡ old = search rules in
    let is : (world_in c.self.inside.core) ≡ Some c.requires.world.0 = search rules in
    let has : HasRoom c.args.inbox.now (lane_of c.self.inside.lanes c.args.seat) = search rules in
    let step : c.in-Ok.step ≡ step_of c.args.seat c.args.call = search rules in
    let applies : Applies (world_in c.self.inside.core) (step_of c.args.seat c.args.call) (Ok c.in-Ok-apply.field-0) (world_in c.apply.new.self) = subst (λ s. Applies (world_in c.self.inside.core) s (Ok c.in-Ok-apply.field-0) (world_in c.apply.new.self)) step c.in-Ok-apply.ensures.made in
    let receipt : c.receipt_of-receipt.result ≡ receipt_with (unwrap_or c.in-Ok-apply.field-0.given 0) c.args.call = search rules in
    subst (λ h. Called h c.args.seat ring c.args.call (record { outcome = report.outcome; given = report.given }) left c.tell.new.inbox) (sym seen)
    (call_made (world_in c.self.inside.core) (world_in c.apply.new.self) c.self.inside.lanes c.tell.new.lanes c.requires.world.0 c.args.seat c.args.call report c.receipt_of-receipt.result ring c.tell.new.inbox is applies receipt has c.in_ok-tell-in-Ok-apply.ensures.lanes c.tell.ensures.ring)
