use Rattle.std.proofs.Common.{[], sym, ap, subst, ◌∙◌}
use Rattle.std.specs.Option.{option_copied, option_map_or}
use Rattle.std.specs.Prelude.{IfSome}
use Rattle.rt_forms.specs.Forms.{AreFilteredAt}
use Rattle.rt_forms.specs.inside.Trees.{AreAt, own}
use Rattle.rt_forms.proofs.FilteredLaws.{filtered_are, none_filtered}
use Rattle.rt_forms.proofs.forms.Forms.filtered_at.Goals as goal

pub returns-in-Some-clause-forms : goal.returns-in-Some-clause-forms
returns-in-Some-clause-forms c =
    subst (AreFilteredAt c.args.self.now c.args.path.now) (sym c.filtered.ensures.forms)
    (filtered_are c.args.self.now c.args.path.now c.in-Some.standing.now
    (λ q. sym (ap (λ o. option_map_or (own q) (option_copied o) []) c.in-Some.is) ∙ c.standing.ensures.numbers q)
    (subst (λ o. IfSome o (λ standing. AreAt c.args.path.now standing.now.filtered)) c.in-Some.is c.standing.ensures.at))

pub returns-in-None-clause-forms : goal.returns-in-None-clause-forms
returns-in-None-clause-forms c =
    none_filtered c.args.self.now c.args.path.now
    (λ q. sym (ap (λ o. option_map_or (own q) (option_copied o) []) c.in-None.is) ∙ c.standing.ensures.numbers q)
