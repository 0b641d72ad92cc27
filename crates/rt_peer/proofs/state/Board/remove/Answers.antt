use Rattle.rt_peer.proofs.BoardLaws.{heard_less, heard_still, of_less}
use Rattle.rt_peer.proofs.state.Board.remove.Goals as goal

pub invariant_of-self : goal.invariant_of-self
invariant_of-self c = (
  of_less c.self.inside.tree c.in-Some.heard c.self.inside.views c.forget.new.self c.forget.ensures c.self.invariant.0,
  heard_less c.args.owner c.in-Some.heard c.self.inside.listens c.remove.new.self c.self.inside.views c.forget.new.self
      c.in-Some.ensures.some c.remove.ensures.left c.forget.ensures c.self.invariant.1,
)

pub invariant_of-self-in-None : goal.invariant_of-self-in-None
invariant_of-self-in-None c = (
  c.self.invariant.0,
  heard_still c.args.owner c.self.inside.listens c.remove.new.self c.self.inside.views c.in-None.ensures.none
      c.remove.ensures.left c.self.invariant.1,
)
