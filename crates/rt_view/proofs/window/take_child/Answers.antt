use Rattle.std.proofs.Common.{◌≡◌, ap, ◌∙◌, sym, Some, None, rules}
use Rattle.std.specs.Option.{option_map}
use Rattle.rt_chain.specs.Chains.{is_half}
use Rattle.rt_chain.specs.declared.chain.Half.{Half}
use Rattle.rt_chain.specs.declared.chain.Half.TheVariants.{Behind, Front}
use Rattle.rt_view.specs.declared.window.Child.{Child}
use Rattle.rt_view.proofs.KnownLaws.{all-taken, children-taken, children-was, marks-taken}
use Rattle.rt_view.proofs.window.take_child.Goals as goal

pub returns-clause-taken : goal.returns-clause-taken
returns-clause-taken c = children-taken c.args.position.now c.args.chain.now c.remove.new.self c.remove.ensures.front c.remove.ensures.behind

pub returns-clause-whole : goal.returns-clause-whole
returns-clause-whole c = all-taken c.args.position.now c.args.chain.now c.remove.new.self c.remove.ensures.whole

pub returns-clause-had : goal.returns-clause-had
returns-clause-had c =
    let is : option_map (λ (p : Half × Child). p.0) c.remove.result ≡ Some c.in-Some.half = search rules in (
      ap (is_half Front) (sym is) ∙ c.remove.ensures.was_front ∙ children-was Front c.args.chain.now c.args.position.now,
      ap (is_half Behind) (sym is) ∙ c.remove.ensures.was_behind ∙ children-was Behind c.args.chain.now c.args.position.now,
    )

pub returns-clause-marks : goal.returns-clause-marks
returns-clause-marks c from h = marks-taken from c.args.position.now c.args.chain.now c.remove.new.self c.remove.ensures.whole h

pub returns-in_default-clause-taken : goal.returns-in_default-clause-taken
returns-in_default-clause-taken c = children-taken c.args.position.now c.args.chain.now c.remove.new.self c.remove.ensures.front c.remove.ensures.behind

pub returns-in_default-clause-whole : goal.returns-in_default-clause-whole
returns-in_default-clause-whole c = all-taken c.args.position.now c.args.chain.now c.remove.new.self c.remove.ensures.whole

pub returns-in_default-clause-had : goal.returns-in_default-clause-had
returns-in_default-clause-had c =
    let is : option_map (λ (p : Half × Child). p.0) c.remove.result ≡ None = search rules in (
      ap (is_half Front) (sym is) ∙ c.remove.ensures.was_front ∙ children-was Front c.args.chain.now c.args.position.now,
      ap (is_half Behind) (sym is) ∙ c.remove.ensures.was_behind ∙ children-was Behind c.args.chain.now c.args.position.now,
    )

pub returns-in_default-clause-marks : goal.returns-in_default-clause-marks
returns-in_default-clause-marks c from h = marks-taken from c.args.position.now c.args.chain.now c.remove.new.self c.remove.ensures.whole h
