use Rattle.std.proofs.Common.{◌≡◌, ◌<◌, ◌==◌, length, not, ap, subst, sym, ◌∙◌, true, false, refl, rules}
use Rattle.std.specs.List.{All, filter, list_any}
use Rattle.rt_peer.specs.Peers.{Listen, is_at}
use Rattle.rt_peer.specs.inside.Boards.{Board}
use Rattle.rt_peer.proofs.OwnedLaws.{fewer, none_left_of, others_stay}
use Rattle.rt_peer.proofs.state.Board.remove_of.Goals as goal

pub loop-first-init : goal.loop-first-init
loop-first-init c = record { tree = refl; others = refl }

pub loop-first-preserved : goal.loop-first-preserved
loop-first-preserved c =
    let o = c.in-Some.first in record {
      tree = ap (λ (b : Board). b.tree) c.remove.ensures ∙ c.loop-first.invariant.tree;
      others = ap (λ (b : Board). filter (λ (m : Listen). not (m.connection == c.args.connection)) b.listens) c.remove.ensures
          ∙ others_stay c.args.connection o c.loop-first.self.listens c.in-Some.ensures.some.0
          ∙ c.loop-first.invariant.others;
    }

pub loop-first-smaller : goal.loop-first-smaller
loop-first-smaller c =
    let o = c.in-Some.first in
    let there : list_any (is_at o.connection o.tag) c.loop-first.self.listens ≡ true = search rules in
    subst (λ (b : Board). length b.listens < length c.loop-first.self.listens) (sym c.remove.ensures)
    (fewer o.connection o.tag c.loop-first.self.listens there)

pub returns : goal.returns
returns c =
    let none : All (λ (l : Listen). (l.connection == c.args.connection) ≡ false) c.loop-first.self.listens = search rules in
    let left : c.loop-first.self.listens ≡ filter (λ (l : Listen). not (l.connection == c.args.connection)) c.args.self.now.listens =
    sym (none_left_of c.args.connection c.loop-first.self.listens none) ∙ c.loop-first.invariant.others in
    λ i. record { tree = c.loop-first.invariant.tree i; listens = left i }
