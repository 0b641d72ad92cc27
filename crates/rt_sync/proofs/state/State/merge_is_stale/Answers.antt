use Rattle.std.proofs.Common.{◌≡◌, Bool, true, false, ◌&&◌, refl, sym, ◌∙◌}
use Rattle.rt_world.specs.steps.Pushing.{is_idle}
use Rattle.rt_sync.specs.inside.StateView.{world_of}
use Rattle.rt_sync.proofs.state.State.merge_is_stale.Goals as goal

and_true : (b : Bool) → (b && true) ≡ b
and_true true = refl
and_true false = refl

pub returns : goal.returns
returns c = c.is_idle.ensures ∙ sym (and_true (is_idle (world_of c.args.self.now) (c.args.tag, c.args.entries.now)))
