use Rattle.std.proofs.Common.{ap, ◌∙◌, None, Some, if◌then◌else◌}
use Rattle.rt_peer.specs.inside.Looked.{at_query}
use Rattle.rt_peer.proofs.ViewsLaws.{put_here}
use Rattle.rt_peer.proofs.views.Views.turn.Goals as goal

pub returns-clause-of : goal.returns-clause-of
returns-clause-of c =
    put_here c.args.heard.now c.turn.new.self c.take.new.self c.put.new.self c.args.write.now.after c.in_ok-put.ensures
    c.in_ok-told.ensures.of

pub returns-clause-others : goal.returns-clause-others
returns-clause-others c r e =
    c.in_ok-put.ensures r ∙ ap (λ b. if b then Some c.turn.new.self else at_query c.take.new.self r) e
    ∙ c.take.ensures.left r ∙ ap (λ b. if b then None else at_query c.args.self.now r) e
