use Rattle.std.proofs.Common.{inl, inr, ◌∙◌}
use Rattle.rt_link.proofs.Told.{all_after, deaf_is_not_full, done_behind, hears_still, refuses_on, unmade_behind}
use Rattle.rt_link.proofs.linked.Linked.call.Goals as goal

pub loop-preserved : goal.loop-preserved
loop-preserved g c =
    let here = hears_still c.args.seat.now c.loop.seat c.try_once.new.seat c.args.heard.now c.loop.heard
    c.args.answers.now c.loop.answers c.loop.invariant.1 c.in-Full.ensures.1 in (
      c.in-Full.ensures.0 ∙ c.loop.invariant.0,
      inr (all_after c.args.seat.now c.try_once.new.seat c.hear.new.seat c.args.heard.now c.loop.heard
          c.hear.new.heard c.args.answers.now c.loop.answers c.hear.new.answers here c.in-Ok.ensures.heard),
    )

pub returns-in-Made-clause-made : goal.returns-in-Made-clause-made
returns-in-Made-clause-made g c =
    done_behind c.args.seat.now c.loop.seat c.try_once.new.seat c.args.heard.now c.loop.heard c.args.answers.now
    c.loop.answers c.args.call c.loop.call c.in-Made.done c.loop.invariant.1 c.loop.invariant.0 c.in-Made.ensures

pub returns-in-Refused-clause-refused : goal.returns-in-Refused-clause-refused
returns-in-Refused-clause-refused g c =
    inl (unmade_behind c.args.seat.now c.loop.seat c.try_once.new.seat c.args.heard.now c.loop.heard
    c.args.answers.now c.loop.answers c.args.call c.loop.call c.in-Refused.why c.loop.invariant.1
    c.loop.invariant.0 c.in-Refused.ensures.0)

pub returns-in-Refused-clause-room : goal.returns-in-Refused-clause-room
returns-in-Refused-clause-room g c = c.in-Refused.ensures.1

pub returns-in-Err-clause-refused : goal.returns-in-Err-clause-refused
returns-in-Err-clause-refused g c =
    let here = hears_still c.args.seat.now c.loop.seat c.try_once.new.seat c.args.heard.now c.loop.heard
    c.args.answers.now c.loop.answers c.loop.invariant.1 c.in-Full.ensures.1 in
    inr (refuses_on c.args.seat.now c.try_once.new.seat c.hear.new.seat c.args.heard.now c.loop.heard
    c.hear.new.heard c.args.answers.now c.loop.answers c.hear.new.answers c.in-Err.why here
    c.in-Err.ensures.refused)

pub returns-in-Err-clause-room : goal.returns-in-Err-clause-room
returns-in-Err-clause-room g c =
    deaf_is_not_full c.try_once.new.seat c.hear.new.seat c.loop.heard c.hear.new.heard c.loop.answers
    c.hear.new.answers c.in-Err.why c.in-Err.ensures.refused
