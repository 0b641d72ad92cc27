use Rattle.std.proofs.Common.{sym, ap, ◌∙◌}
use Rattle.std.specs.List.{slice_get}
use Rattle.std.specs.Option.{option_copied}
use Rattle.rt_cover.proofs.HeldLaws.{first_some, first_none}
use Rattle.rt_cover.proofs.listeners.first_listener.Goals as goal

pub returns-in-Some : goal.returns-in-Some
returns-in-Some c = first_some c.args.form.now c.args.listeners.now c.in-Some.first.now
    (sym (ap option_copied (sym c.in-Some.is) ∙ c.first.ensures.value ∙ ap (λ ns. slice_get ns 0) c.numbers.ensures))

pub returns-in-None : goal.returns-in-None
returns-in-None c = first_none c.args.form.now c.args.listeners.now
    (sym (ap option_copied (sym c.in-None.is) ∙ c.first.ensures.value ∙ ap (λ ns. slice_get ns 0) c.numbers.ensures))
