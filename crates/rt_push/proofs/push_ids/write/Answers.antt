use Rattle.std.proofs.Common.{◌++◌, ◌-◌, ◌/◌, ap, sym, ◌∙◌, arith, drop}
use Rattle.std.proofs.Math.ListN.{set}
use Rattle.std.proofs.lemmas.List.{length-set}
use Rattle.rt_push.specs.Digits.{text}
use Rattle.rt_push.proofs.DigitLaws.{text-step, text-done}
use Rattle.rt_push.proofs.push_ids.write.Goals as goal

pub loop-place-preserved : goal.loop-place-preserved
loop-place-preserved c =
    let p = c.loop-place in
    let kept = p.invariant in (
      simp length-set (omega arith),
      length-set p.room (p.place - 1) c.digit_byte.result ∙ kept.1,
      kept.2 ∙ text-step p.place (p.place - 1) p.rest p.room (omega arith) (omega arith)
          ∙ ap (λ byte. text (p.place - 1) (p.rest / 64) ++ drop (p.place - 1) (set p.room (p.place - 1) byte)) (sym c.digit_byte.ensures),
    )

pub returns : goal.returns
returns c = sym (c.loop-place.invariant.2 ∙ text-done c.loop-place.place c.loop-place.rest c.loop-place.room (omega arith))
