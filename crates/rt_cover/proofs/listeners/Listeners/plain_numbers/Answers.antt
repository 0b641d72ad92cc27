use Rattle.std.proofs.Common.{◌∙◌}
use Rattle.rt_query.specs.Queries.{plain}
use Rattle.rt_cover.specs.State.{numbers_of}
use Rattle.rt_cover.proofs.listeners.Listeners.plain_numbers.Goals as goal

pub returns : goal.returns
returns c = c.plain_numbers.ensures ∙ c.self.invariant.numbers (plain c.args.path.now)
    ∙ (λ i. numbers_of (c.self.view_is i) (plain c.args.path.now))
