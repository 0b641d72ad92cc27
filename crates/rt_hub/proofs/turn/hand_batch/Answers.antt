use Rattle.std.proofs.Common.{arith, subst, ◌∙◌}
use Rattle.rt_hub.specs.Handing.{IsPassed, PassesFewer}
use Rattle.rt_hub.proofs.Handing.{one_more, passed_more}
use Rattle.rt_hub.proofs.turn.hand_batch.Goals as goal

pub returns-in-Nothing-clause-passed : goal.returns-in-Nothing-clause-passed
returns-in-Nothing-clause-passed g c =
    subst (λ x. IsPassed x c.args.connection (g.D.Door.contents c.args.door.now)
    (g.D.Door.contents c.hand_one.new.door) c.args.hub.now c.hand_one.new.hub) c.in-Nothing.is
    (passed_more c.in_ok-len.field-0 c.args.connection (g.D.Door.contents c.args.door.now)
    (g.D.Door.contents c.loop.door) (g.D.Door.contents c.hand_one.new.door) c.args.hub.now c.loop.hub
    c.hand_one.new.hub c.loop.invariant.0 c.in_ok-len.ensures.passed)

pub returns-in-Failed-clause-passed : goal.returns-in-Failed-clause-passed
returns-in-Failed-clause-passed g c =
    subst (λ x. IsPassed x c.args.connection (g.D.Door.contents c.args.door.now)
    (g.D.Door.contents c.hand_one.new.door) c.args.hub.now c.hand_one.new.hub) c.in-Failed.is
    (passed_more c.in_ok-len.field-0 c.args.connection (g.D.Door.contents c.args.door.now)
    (g.D.Door.contents c.loop.door) (g.D.Door.contents c.hand_one.new.door) c.args.hub.now c.loop.hub
    c.hand_one.new.hub c.loop.invariant.0 c.in_ok-len.ensures.passed)

pub loop-preserved : goal.loop-preserved
loop-preserved g c = (
  subst (λ x. IsPassed x c.args.connection (g.D.Door.contents c.args.door.now)
      (g.D.Door.contents c.hand_one.new.door) c.args.hub.now c.hand_one.new.hub) c.in-Texts.is
      (passed_more c.in_ok-len.field-0 c.args.connection (g.D.Door.contents c.args.door.now)
      (g.D.Door.contents c.loop.door) (g.D.Door.contents c.hand_one.new.door) c.args.hub.now c.loop.hub
      c.hand_one.new.hub c.loop.invariant.0 c.in_ok-len.ensures.passed),
  c.in_ok-len.ensures.remaining ∙ c.loop.invariant.1,
  one_more c.loop.counter c.args.connection c.args.hub.now c.loop.hub c.hand_one.new.hub c.loop.invariant.2
      (subst (λ x. PassesFewer x c.args.connection c.loop.hub c.hand_one.new.hub) c.in-Texts.is
      c.in_ok-len.ensures.fewer),
  (λ e. absurd (omega (arith, e))),
)
