use Rattle.std.proofs.Common.{sym}
use Rattle.rt_writes.proofs.KeptLaws.{keeps_here, keeps_child}
use Rattle.rt_writes.proofs.spots.Spot.+copy_kept.Goals as goal

pub returns-in_ok-copy_part-in-Some : goal.returns-in_ok-copy_part-in-Some
returns-in_ok-copy_part-in-Some t c =
    keeps_here c.args.self.now c.args.keys.now c.args.id c.in-Some.tree c.in_ok-copy_part-in-Some.field-0 c.contains_key.result
    c.contains_key.ensures c.if-contains_key.true c.in-Some.is c.in_ok-copy_part-in-Some.ensures

pub returns-in-Some-get : goal.returns-in-Some-get
returns-in-Some-get t c =
    keeps_child c.copy_kept.result c.args.self.now c.in-Some-get.child.now c.args.keys.now c.in-Some-split_first.key.now c.in-Some-split_first.rest.now c.args.id
    c.in-Some-split_first.ensures.cases.0 (sym c.in-Some-get.ensures.value) c.copy_kept.ensures
