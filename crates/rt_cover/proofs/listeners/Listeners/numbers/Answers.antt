use Rattle.std.proofs.Common.{ap, ◌∙◌}
use Rattle.rt_cover.specs.State.{numbers_of}
use Rattle.rt_cover.proofs.listeners.Listeners.numbers.Goals as goal

pub returns : goal.returns
returns c = c.numbers.ensures ∙ c.self.invariant.numbers c.args.form.now ∙ ap (numbers_of c.self.inside.by_number.items) c.requires
    ∙ (λ i. numbers_of (c.self.view_is i) c.args.form.now)
