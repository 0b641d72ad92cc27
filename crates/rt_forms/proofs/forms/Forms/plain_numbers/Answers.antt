use Rattle.std.proofs.Common.{[], sym, ap, ◌∙◌}
use Rattle.std.specs.Option.{option_copied, option_map_or}
use Rattle.rt_query.specs.Queries.{plain}
use Rattle.rt_forms.specs.inside.Trees.{own}
use Rattle.rt_forms.proofs.forms.Forms.plain_numbers.Goals as goal

pub returns-in-Some : goal.returns-in-Some
returns-in-Some c =
    c.plain_numbers.ensures ∙ sym (ap (λ o. option_map_or (own (plain c.args.path.now)) (option_copied o) []) c.in-Some.is)
    ∙ c.standing.ensures.numbers (plain c.args.path.now)

pub returns-in-None : goal.returns-in-None
returns-in-None c =
    sym (ap (λ o. option_map_or (own (plain c.args.path.now)) (option_copied o) []) c.in-None.is)
    ∙ c.standing.ensures.numbers (plain c.args.path.now)
