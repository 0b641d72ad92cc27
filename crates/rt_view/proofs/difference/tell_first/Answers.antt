use Rattle.std.proofs.Common.{◌++◌, [], ◌∷◌, ap, ◌∙◌}
use Rattle.std.proofs.lemmas.Result.{IfOk-weaker}
use Rattle.rt_view.specs.declared.change.Change.TheVariants.{Value}
use Rattle.rt_view.proofs.OrderLaws.{first_told}
use Rattle.rt_view.proofs.difference.tell_first.Goals as goal

pub returns : goal.returns
returns c =
    IfOk-weaker c.with_whole.result _ _
    (λ list is. is ∙ (λ i. c.in_ok-rows.ensures i ++ Value c.args.known.now ∷ []) ∙ first_told c.args.query.now c.args.known.now c.requires)
    c.with_whole.ensures
