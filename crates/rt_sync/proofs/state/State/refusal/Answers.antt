use Rattle.std.proofs.Common.{sym, ap, ◌∙◌}
use Rattle.rt_world.specs.Refusals.{refusal}
use Rattle.rt_sync.specs.inside.StateView.{world_of}
use Rattle.rt_sync.proofs.state.State.refusal.Goals as goal

pub returns-in-Listen : goal.returns-in-Listen
returns-in-Listen c = c.listen_refusal.ensures c.in-Listen.seat ∙ sym (ap (refusal (world_of c.args.self.now)) c.in-Listen.is)

pub returns-in-Write : goal.returns-in-Write
returns-in-Write c = c.write_refusal.ensures c.in-Write.seat ∙ sym (ap (refusal (world_of c.args.self.now)) c.in-Write.is)

pub returns-in-OnDisconnect : goal.returns-in-OnDisconnect
returns-in-OnDisconnect c = c.on_disconnect_refusal.ensures c.in-OnDisconnect.seat ∙ sym (ap (refusal (world_of c.args.self.now)) c.in-OnDisconnect.is)

pub returns-in-Accepted : goal.returns-in-Accepted
returns-in-Accepted c = c.settle_refusal.ensures.accepted c.in-Accepted.id ∙ sym (ap (refusal (world_of c.args.self.now)) c.in-Accepted.is)

pub returns-in-Refused : goal.returns-in-Refused
returns-in-Refused c = c.settle_refusal-in-Refused.ensures.refused c.in-Refused.id c.in-Refused.why ∙ sym (ap (refusal (world_of c.args.self.now)) c.in-Refused.is)

pub returns-in-Revoked : goal.returns-in-Revoked
returns-in-Revoked c = c.revoke_refusal.ensures c.in-Revoked.why ∙ sym (ap (refusal (world_of c.args.self.now)) c.in-Revoked.is)
