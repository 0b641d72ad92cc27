use Rattle.std.proofs.Common.{◌∷◌, [], ap, ◌∙◌}
use Rattle.std.proofs.lemmas.Result.{IfOk-weaker}
use Rattle.rt_tree.specs.PathTree.{sub}
use Rattle.rt_peer.proofs.views.child_in.Goals as goal

pub returns : goal.returns
returns c =
    IfOk-weaker c.child_of.result _ _ (λ child is. is ∙ ap (λ t. sub t (c.args.key.now ∷ [])) c.in_ok-part.ensures)
    c.child_of.ensures
