use Rattle.std.proofs.Common.{◌<◌, length, ◌∙◌, rules}
use Rattle.rt_peer.proofs.PutBehind.{own}
use Rattle.rt_peer.proofs.TakingLaws.{taken_all, taking_more}
use Rattle.rt_peer.proofs.actions.Actions.take_some.Goals as goal

pub loop-self-preserved : goal.loop-self-preserved
loop-self-preserved c =
    let fewer : length c.loop-self.taken.items < c.args.most = search rules in
    taking_more (own c.args.connection) c.args.most c.args.self.now c.loop-self.self c.take_first.new.self c.loop-self.taken.items c.push.new.self.items
    c.in-Some.action fewer c.in-Some.ensures.some c.in-Some.ensures.left c.in_ok-push-in-Some.ensures.items c.loop-self.invariant

pub returns-in-None-clause-rest : goal.returns-in-None-clause-rest
returns-in-None-clause-rest c =
    c.in-None.ensures.same
    ∙ (taken_all (own c.args.connection) c.args.most c.args.self.now c.loop-self.self c.loop-self.taken.items c.in-None.ensures.none c.loop-self.invariant).1
