use Rattle.std.proofs.Common.{◌∙◌, arith}
use Rattle.std.specs.List.{filter}
use Rattle.rt_peer.proofs.PutBehind.{own}
use Rattle.rt_peer.proofs.TakingLaws.{take_whole, without_all}
use Rattle.rt_peer.proofs.actions.Actions.take_of.Goals as goal

pub returns-clause-own : goal.returns-clause-own
returns-clause-own c =
    c.in_ok-own.ensures.own ∙ take_whole c.count_of-all.result (filter (own c.args.connection) c.args.self.now) c.count_of-all.ensures

pub returns-clause-others : goal.returns-clause-others
returns-clause-others c =
    c.in_ok-own.ensures.rest
    ∙ without_all (own c.args.connection) c.count_of-all.result c.args.self.now (omega (arith, c.count_of-all.ensures))
