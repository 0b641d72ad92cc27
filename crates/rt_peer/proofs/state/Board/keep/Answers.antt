use Rattle.std.proofs.Common.{ap, ◌∙◌}
use Rattle.rt_peer.specs.inside.Boards.{Board}
use Rattle.rt_peer.specs.inside.Spots.{listen_of}
use Rattle.rt_peer.proofs.BoardLaws.{heard_more, heard_none, kept_alone, of_none}
use Rattle.rt_peer.proofs.state.Board.keep.Goals as goal

pub invariant_of-self : goal.invariant_of-self
invariant_of-self c =
    let is = ap (λ (b : Board). b.listens) (c.self.view_is ∙ c.remove.ensures) in (
      c.self.invariant.0,
      heard_more c.args.owner (listen_of (c.args.owner, c.args.query)) c.args.self.now.listens c.self.inside.listens c.keep.new.self
          c.self.inside.views is c.in-Ok.ensures c.self.invariant.1,
    )

pub invariant_of-self-in-Err : goal.invariant_of-self-in-Err
invariant_of-self-in-Err c = (of_none _ _ c.new.ensures, heard_none _ _ c.new.ensures)

pub returns-in-Ok : goal.returns-in-Ok
returns-in-Ok c =
    let is = ap (λ (b : Board). b.listens) (c.self.view_is ∙ c.remove.ensures) in
    let all = kept_alone c.args.owner (listen_of (c.args.owner, c.args.query)) c.args.self.now.listens c.self.inside.listens
    c.keep.new.self is c.in-Ok.ensures in
    λ i. record { tree = ap (λ (b : Board). b.tree) (c.self.view_is ∙ c.remove.ensures) i; listens = all i }
