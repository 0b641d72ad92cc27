use Rattle.std.proofs.Common.{rules, ◌≡◌, None, subst, ◌∙◌}
use Rattle.rt_hub.specs.Turns.{Hears, next_count}
use Rattle.rt_hub.proofs.Hearing.{hears_more}
use Rattle.rt_hub.proofs.turn.take_turn.Goals as goal

pub loop-preserved : goal.loop-preserved
loop-preserved g c =
    let goes_on : c.in_ok-turn.field-0 ≡ None = search rules in (
      hears_more c.loop.counter 1 c.args.connection c.args.hub.now c.loop.hub c.take_next.new.hub
          (g.D.Door.remaining c.args.door.now) (g.D.Door.remaining c.loop.door)
          (g.D.Door.remaining c.take_next.new.door) c.args.notes.now c.loop.notes c.take_next.new.notes
          c.loop.invariant.0
          (subst (λ end. Hears (next_count end) c.args.connection c.loop.hub c.take_next.new.hub
          (g.D.Door.remaining c.loop.door) (g.D.Door.remaining c.take_next.new.door) c.loop.notes
          c.take_next.new.notes) goes_on c.in_ok-turn.ensures.heard),
      c.in_ok-turn.ensures.contents ∙ c.loop.invariant.1,
    )
