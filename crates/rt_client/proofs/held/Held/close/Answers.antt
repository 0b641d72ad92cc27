use Rattle.std.proofs.Common.{◌≡◌, Some, sym, subst, rules}
use Rattle.rt_world.specs.declared.step.Step.{Step}
use Rattle.rt_sync.specs.Core.{world_in}
use Rattle.rt_client.specs.Calls.{Refuses}
use Rattle.rt_client.specs.Shared.{Held}
use Rattle.rt_client.proofs.Steps.{step_refused}
use Rattle.rt_client.proofs.held.Held.close.Goals as goal

pub returns-in-Err-clause-refused : goal.returns-in-Err-clause-refused
returns-in-Err-clause-refused c =
    let s = Step.CloseSeat c.args.seat in
    let old : Held = record { core = (world_in c.self.inside.core); lanes = c.self.inside.lanes } in
    let left : Held = record { core = (world_in c.apply.new.self); lanes = c.self.inside.lanes } in
    let seen : c.args.self.now ≡ old = search rules in
    let is : (world_in c.self.inside.core) ≡ Some c.requires.world.0 = search rules in
    subst (λ h. Refuses h s c.from.result left) (sym seen)
    (subst (λ e. Refuses old s e left) (sym c.from.ensures)
    (step_refused (world_in c.self.inside.core) (world_in c.apply.new.self) c.self.inside.lanes c.requires.world.0 s c.in-Err.error is c.in-Err.ensures.made))
