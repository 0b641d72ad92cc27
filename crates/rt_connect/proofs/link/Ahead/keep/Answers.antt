use Rattle.std.proofs.Common.{rules, ◌≡◌, [], ◌∷◌, ◌++◌}
use Rattle.rt_connect.proofs.Costs.{kept_cost}
use Rattle.rt_connect.proofs.link.Ahead.keep.Goals as goal

pub invariant_of-self-2 : goal.invariant_of-self-2
invariant_of-self-2 c =
    let items : c.push_back.new.self.items ≡ c.self.inside.kept.items ++ c.args.told ∷ [] = search rules in
    kept_cost c.self.inside.kept.items c.push_back.new.self.items c.args.told c.self.inside.cost c.len.result
    c.saturating_add.result c.saturating_add-cost.result c.self.invariant c.len.ensures
    c.saturating_add.ensures c.saturating_add-cost.ensures c.if-cost-gt-MAX_KEPT_BYTES.false items
