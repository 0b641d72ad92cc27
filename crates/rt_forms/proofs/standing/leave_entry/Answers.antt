use Rattle.std.proofs.Common.{◌≡◌, ◌==◌, ℕ, List, true, length, arith, ap, ◌∙◌}
use Rattle.std.specs.List.{list_any}
use Rattle.rt_query.specs.Queries.{Query}
use Rattle.rt_forms.proofs.standing.leave_entry.Goals as goal

pub returns-clause-less : goal.returns-clause-less
returns-clause-less c there =
    let at : list_any (λ m. m == c.args.number) c.entry.inside.numbers ≡ true = ap (λ (e : Query × List ℕ). list_any (λ m. m == c.args.number) e.1) c.entry.view_is ∙ there in
    let less = c.remove.ensures.less at in
    let is : length c.entry.inside.numbers ≡ length c.args.entry.now.1 = ap (λ (e : Query × List ℕ). length e.1) c.entry.view_is in
    omega (arith, less, is)
