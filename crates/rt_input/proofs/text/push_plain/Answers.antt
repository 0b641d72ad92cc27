use Rattle.std.proofs.Common.{◌++◌, [], sym, ap, ◌∙◌, append_assoc, append-nil}
use Rattle.std.proofs.lemmas.Str.{IsUtf8-past_char}
use Rattle.rt_input.specs.Plains.{plain, plain_of}
use Rattle.rt_input.proofs.PlainLaws.{plain_empty, plain_step}
use Rattle.rt_input.proofs.text.push_plain.Goals as goal

pub loop-letter-preserved : goal.loop-letter-preserved
loop-letter-preserved c =
    let held = c.loop-letter.invariant in
    let parts = c.in-Some.ensures.steps.0 in
    let part = held.1 in
    let shown = plain_of c.in-Some.letter in
    let step = plain_step _ _ c.in-Some.letter held.0 parts in (
      IsUtf8-past_char _ _ c.in-Some.letter held.0 parts,
      part ++ shown,
      held.2 ∙ ap (λ l. part ++ l) step ∙ sym (append_assoc part shown _),
      c.in_ok-push_one.ensures.shown ∙ ap (λ l. l ++ shown) held.3 ∙ append_assoc _ part shown,
    )

pub returns-clause-shown : goal.returns-clause-shown
returns-clause-shown c =
    let held = c.loop-letter.invariant in
    let none = plain_empty _ c.in-None.ensures.steps.0.0 in
    let all = held.2 ∙ ap (λ l. held.1 ++ l) none ∙ append-nil _ in
    held.3 ∙ ap (λ l. c.args.line.now.items ++ l) (sym all)
