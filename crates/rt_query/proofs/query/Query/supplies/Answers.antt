use Rattle.std.proofs.Common.{sym, ◌∙◌}
use Rattle.rt_tree.specs.Assignments.{is_at_or_above}
use Rattle.rt_query.specs.laws.SupplyLaws.{supply_unfiltered}
use Rattle.rt_query.proofs.query.Query.supplies.Goals as goal

pub returns-else-is_filtered : goal.returns-else-is_filtered
returns-else-is_filtered c =
    c.is_prefix_of.ensures
    ∙ (λ i. is_at_or_above (c.self.view_is i).path (c.other.view_is i).path)
    ∙ sym (supply_unfiltered c.args.self.now c.args.other.now (sym c.if-is_filtered.ensures))
