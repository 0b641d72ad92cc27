use Rattle.std.proofs.Common.{◌==◌, length, ap, ◌∙◌}
use Rattle.std.specs.List.{filter}
use Rattle.rt_peer.specs.Peers.{Listen}
use Rattle.rt_peer.proofs.listens.Listens.count_of.Goals as goal

pub returns : goal.returns
returns c =
    c.count_of.ensures ∙ c.self.invariant.2 c.args.connection
    ∙ ap (λ ls. length (filter (λ (l : Listen). l.connection == c.args.connection) ls)) c.self.view_is
