use Rattle.std.proofs.Common.{◌&&◌, ◌∙◌}
use Rattle.std.specs.List.{list_any}
use Rattle.rt_tree.specs.PathTree.{path_eq}
use Rattle.rt_query.specs.Queries.{is_filtered}
use Rattle.rt_cover.specs.Cover.{Registered}
use Rattle.rt_cover.proofs.HeldLaws.{filtered_tells}
use Rattle.rt_cover.proofs.listeners.Listeners.filtered_at.Goals as goal

pub returns-clause-forms : goal.returns-clause-forms
returns-clause-forms c = λ s t.
    filtered_tells c.self.inside.by_number.items c.self.inside.forms c.self.invariant c.args.path.now c.filtered_at.result.now c.filtered_at.ensures.forms s t
    ∙ (λ i. list_any (λ (l : Registered). (is_filtered l.1 && path_eq (l.1).path c.args.path.now) && (s l.1 && t l.0)) (c.self.view_is i))

pub returns-clause-filtered : goal.returns-clause-filtered
returns-clause-filtered c = λ k d lt. (c.filtered_at.ensures.forms.only k d lt).0
