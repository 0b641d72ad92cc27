use Rattle.std.proofs.Common.{sym, ap, ◌∙◌}
use Rattle.rt_world.specs.Refusals.{is_stale}
use Rattle.rt_sync.specs.inside.StateView.{world_of}
use Rattle.rt_sync.proofs.state.State.is_stale.Goals as goal

pub returns-in-Data : goal.returns-in-Data
returns-in-Data c = c.data_is_stale.ensures c.in-Data.tree ∙ sym (ap (is_stale (world_of c.args.self.now)) c.in-Data.is)

pub returns-in-Refused : goal.returns-in-Refused
returns-in-Refused c = c.settle_is_stale-in-Refused.ensures.refused c.in-Refused.why ∙ sym (ap (is_stale (world_of c.args.self.now)) c.in-Refused.is)

pub returns-in-Revoked : goal.returns-in-Revoked
returns-in-Revoked c = c.revoke_is_stale.ensures c.in-Revoked.why ∙ sym (ap (is_stale (world_of c.args.self.now)) c.in-Revoked.is)
