use Rattle.std.proofs.Common.{◌++◌, ap, ◌∙◌, append_assoc}
use Rattle.std.proofs.lemmas.Result.{on_ok_weaker}
use Rattle.rt_nodes.specs.Forest.{row_at}
use Rattle.rt_forms.specs.inside.Trees.{all_own, all_in}
use Rattle.rt_forms.proofs.forms.gather_at.Goals as goal

pub returns : goal.returns
returns c =
    let old = c.args.numbers.now.items in
    let own = all_own c.args.standing.now in
    let below = all_in (row_at c.args.nodes.now c.args.below) in
    on_ok_weaker c.gather_row.result (λ is. is ∙ ap (λ ns. ns ++ below) c.in_ok-gather.ensures ∙ append_assoc old own below) c.gather_row.ensures
