use Rattle.std.proofs.Common.{◌≤◌, subst, sym}
use Rattle.std.proofs.lemmas.Result.{IfOk-weaker}
use Rattle.rt_tree.specs.PathTree.{levels}
use Rattle.rt_peer.proofs.WatchedLaws.{child_fits}
use Rattle.rt_peer.proofs.views.child_at.Goals as goal

pub returns-clause-fits : goal.returns-clause-fits
returns-clause-fits c =
    IfOk-weaker c.child_in.result _ _ (λ child is. subst (λ t. levels t ≤ 32) (sym is)
    (child_fits c.args.tree.now c.args.path.now c.args.key.now c.children-children.ensures.allowed)) c.child_in.ensures
