use Rattle.std.proofs.lemmas.Result.{IfOk-weaker}
use Rattle.rt_view.proofs.difference.tell_plain.Goals as goal

pub returns : goal.returns
returns c =
    IfOk-weaker c.with_value.result _ _
    (λ list told t seen old. told t (c.in_ok-rows.ensures t seen) old)
    c.with_value.ensures
