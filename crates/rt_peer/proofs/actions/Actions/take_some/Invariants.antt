use Rattle.std.proofs.Common.{◌-◌, length}
use Rattle.rt_peer.proofs.PutBehind.{own}
use Rattle.rt_peer.proofs.TakingLaws.{IsTaking}
use Rattle.rt_peer.proofs.actions.Actions.take_some.Given as goal

abbrev pub invariant-loop-self : goal.invariant-loop-self
invariant-loop-self l = IsTaking (own l.connection) l.most l.fn.self l.self l.taken.items

abbrev pub decreases-loop-self : goal.decreases-loop-self
decreases-loop-self l = l.most - length l.taken.items
