use Rattle.std.proofs.Common.{rules, ap₂, ◌∙◌}
use Rattle.clap.specs.Words.{with_rule}
use Rattle.rt_commands.proofs.commands.emulate_command.Goals as goal

pub returns-clause-app : goal.returns-clause-app
returns-clause-app c =
    c.in_ok-command.ensures.shape (search rules)
    ∙ ap₂ with_rule
    (c.in_ok-arg-7.ensures.shape (search rules)
    ∙ ap₂ with_rule
    (c.in_ok-arg-6.ensures.shape (search rules)
    ∙ ap₂ with_rule
    (c.in_ok-arg-5.ensures.shape (search rules)
    ∙ ap₂ with_rule
    (c.in_ok-arg-4.ensures.shape (search rules)
    ∙ ap₂ with_rule
    (c.in_ok-arg-3.ensures.shape (search rules)
    ∙ ap₂ with_rule
    (c.in_ok-arg-2.ensures.shape (search rules)
    ∙ ap₂ with_rule
    (c.in_ok-arg.ensures.shape (search rules) ∙ ap₂ with_rule c.in_ok-begun.ensures.app c.texts_arg.ensures.rule)
    c.text_arg.ensures.rule)
    c.text_arg-2.ensures.rule)
    c.number_arg.ensures.rule)
    c.flag_arg.ensures.rule)
    c.text_arg-3.ensures.rule)
    c.quiet_arg.ensures.rule)
    c.verbose_arg.ensures.rule
