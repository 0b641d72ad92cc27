use Rattle.std.proofs.Common.{subst, ◌∙◌}
use Rattle.rt_hub.specs.Handing.{Hands}
use Rattle.rt_hub.proofs.Handing.{hands_more, one_more}
use Rattle.rt_hub.proofs.turn.hand_over.Goals as goal

pub returns-in-Drained-clause-handed : goal.returns-in-Drained-clause-handed
returns-in-Drained-clause-handed g c =
    subst (λ x. Hands x c.args.connection (g.D.Door.contents c.args.door.now)
    (g.D.Door.contents c.hand_round.new.door) (g.D.Door.flushed c.hand_round.new.door) c.args.hub.now
    c.hand_round.new.hub) c.in-Drained.is
    (hands_more c.in_ok-hand_round.field-0 c.args.connection (g.D.Door.contents c.args.door.now)
    (g.D.Door.contents c.loop.door) (g.D.Door.contents c.hand_round.new.door)
    (g.D.Door.flushed c.hand_round.new.door) c.args.hub.now c.loop.hub c.hand_round.new.hub
    c.loop.invariant.0 c.in_ok-hand_round.ensures.handed)

pub returns-in-Blocked-clause-handed : goal.returns-in-Blocked-clause-handed
returns-in-Blocked-clause-handed g c =
    subst (λ x. Hands x c.args.connection (g.D.Door.contents c.args.door.now)
    (g.D.Door.contents c.hand_round.new.door) (g.D.Door.flushed c.hand_round.new.door) c.args.hub.now
    c.hand_round.new.hub) c.in-Blocked.is
    (hands_more c.in_ok-hand_round.field-0 c.args.connection (g.D.Door.contents c.args.door.now)
    (g.D.Door.contents c.loop.door) (g.D.Door.contents c.hand_round.new.door)
    (g.D.Door.flushed c.hand_round.new.door) c.args.hub.now c.loop.hub c.hand_round.new.hub
    c.loop.invariant.0 c.in_ok-hand_round.ensures.handed)

pub returns-in-Failed-clause-handed : goal.returns-in-Failed-clause-handed
returns-in-Failed-clause-handed g c =
    subst (λ x. Hands x c.args.connection (g.D.Door.contents c.args.door.now)
    (g.D.Door.contents c.hand_round.new.door) (g.D.Door.flushed c.hand_round.new.door) c.args.hub.now
    c.hand_round.new.hub) c.in-Failed.is
    (hands_more c.in_ok-hand_round.field-0 c.args.connection (g.D.Door.contents c.args.door.now)
    (g.D.Door.contents c.loop.door) (g.D.Door.contents c.hand_round.new.door)
    (g.D.Door.flushed c.hand_round.new.door) c.args.hub.now c.loop.hub c.hand_round.new.hub
    c.loop.invariant.0 c.in_ok-hand_round.ensures.handed)

pub loop-preserved : goal.loop-preserved
loop-preserved g c = (
  subst (λ x. Hands x c.args.connection (g.D.Door.contents c.args.door.now)
      (g.D.Door.contents c.hand_round.new.door) (g.D.Door.flushed c.hand_round.new.door) c.args.hub.now
      c.hand_round.new.hub) c.in-More.is
      (hands_more c.in_ok-hand_round.field-0 c.args.connection (g.D.Door.contents c.args.door.now)
      (g.D.Door.contents c.loop.door) (g.D.Door.contents c.hand_round.new.door)
      (g.D.Door.flushed c.hand_round.new.door) c.args.hub.now c.loop.hub c.hand_round.new.hub
      c.loop.invariant.0 c.in_ok-hand_round.ensures.handed),
  c.in_ok-hand_round.ensures.remaining ∙ c.loop.invariant.1,
  one_more c.loop.counter c.args.connection c.args.hub.now c.loop.hub c.hand_round.new.hub c.loop.invariant.2
      (c.in_ok-hand_round.ensures.fewer c.in-More.is),
)
