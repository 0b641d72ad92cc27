use Rattle.std.proofs.Common.{rules, ◌≡◌, ◌∙◌, subst}
use Rattle.rt_link.specs.inside.Rounds.{SaysRound}
use Rattle.rt_link.specs.declared.turn.SentOff.TheVariants as sent
use Rattle.rt_link.proofs.Rounds.{one_more_round}
use Rattle.rt_link.proofs.turn.say_turn.Goals as goal

pub loop-preserved : goal.loop-preserved
loop-preserved g c =
    let more : c.in_ok-say_round.field-0 ≡ sent.More = search rules in
    let had = g.W.Wire.contents c.loop.wire in
    let has = g.W.Wire.contents c.say_round.new.wire in (
      one_more_round c.loop.counter (g.W.Wire.contents c.args.wire.now) had has c.loop.invariant.0
          (subst (λ s. SaysRound s had has) more c.in_ok-say_round.ensures.said),
      c.in_ok-say_round.ensures.remaining ∙ c.loop.invariant.1,
    )
