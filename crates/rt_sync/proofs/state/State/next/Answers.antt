use Rattle.std.proofs.Common.{subst, sym}
use Rattle.rt_sync.specs.inside.States.{Makes}
use Rattle.rt_sync.proofs.state.State.next.Goals as goal

pub returns-in-Disconnected : goal.returns-in-Disconnected
returns-in-Disconnected c = record {
  made = subst (λ s. Makes c.args.self.now s c.disconnect.new.self c.disconnect.result) (sym c.in-Disconnected.is) c.disconnect.ensures;
  not_closing = tt;
}
