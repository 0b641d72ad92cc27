use Rattle.std.proofs.Common.{◌∙◌}
use Rattle.std.proofs.lemmas.Result.{IfOk-weaker}
use Rattle.rt_peer.proofs.LookedLaws.{noted_is}
use Rattle.rt_peer.proofs.ViewsLaws.{goes_noted}
use Rattle.rt_peer.proofs.views.look.Goals as goal

pub returns-in-Some-clause-told : goal.returns-in-Some-clause-told
returns-in-Some-clause-told c =
    IfOk-weaker c.copied.result _ _ (λ told is. is
    ∙ noted_is c.args.write.now.before c.args.write.now.after c.args.heard.now c.in-Some.told.now c.args.looked.now.entries
    c.in-Some.ensures.value c.requires.looked) c.copied.ensures

pub returns-in-Some-clause-goes : goal.returns-in-Some-clause-goes
returns-in-Some-clause-goes c =
    IfOk-weaker c.copied.result _ _ (λ copy is.
    goes_noted c.args.heard.now c.args.looked.now.entries c.args.views.now c.in-Some.told.now c.in-Some.ensures.value)
    c.copied.ensures
