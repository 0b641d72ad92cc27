use Rattle.std.proofs.Common.{rules, ◌≡◌, ◌∷◌, [], Some, None}
use Rattle.rt_hub.specs.Hubs.{first_of, line_in}
use Rattle.rt_hub.specs.Doors.{Takes}
use Rattle.rt_hub.proofs.Handing.{drained_one, given_one, handed_one, one_fewer}
use Rattle.rt_hub.proofs.turn.hand_one.Goals as goal

pub returns-in_default-clause-passed : goal.returns-in_default-clause-passed
returns-in_default-clause-passed g c =
    let first : None ≡ first_of (line_in c.args.hub.now c.args.connection) = search rules in
    drained_one c.args.connection (g.D.Door.contents c.args.door.now) c.args.hub.now c.next.new.self first
    c.next.ensures.rest

pub returns-then-branch-clause-passed : goal.returns-then-branch-clause-passed
returns-then-branch-clause-passed g c =
    let first : Some c.as_str.result.now ≡ first_of (line_in c.args.hub.now c.args.connection) = search rules in
    let took : Takes (g.D.Door.contents c.args.door.now) (g.D.Door.contents c.put.new.self)
    (c.as_str.result.now ∷ []) = c.in_ok-put.ensures.takes c.if-branch.true in
    handed_one c.args.connection (g.D.Door.contents c.args.door.now) (g.D.Door.contents c.put.new.self)
    c.as_str.result.now c.args.hub.now c.next.new.self first c.next.ensures.rest took

pub returns-clause-passed : goal.returns-clause-passed
returns-clause-passed g c = given_one c.args.connection c.args.hub.now c.next.new.self c.next.ensures.rest

pub returns-then-branch-clause-fewer : goal.returns-then-branch-clause-fewer
returns-then-branch-clause-fewer g c =
    let first : Some c.as_str.result.now ≡ first_of (line_in c.args.hub.now c.args.connection) = search rules in
    one_fewer c.args.connection c.as_str.result.now c.args.hub.now c.next.new.self first c.next.ensures.rest
