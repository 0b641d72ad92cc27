use Rattle.std.proofs.Common.{length, ap, ◌∙◌}
use Rattle.std.specs.List.{filter}
use Rattle.rt_peer.specs.inside.Placed.{is_of}
use Rattle.rt_peer.proofs.actions.Placed.count_of.Goals as goal

pub returns : goal.returns
returns c =
    c.count_of.ensures ∙ c.self.invariant.0.counted c.args.connection
    ∙ ap (λ es. length (filter (is_of c.args.connection) es)) c.self.view_is
