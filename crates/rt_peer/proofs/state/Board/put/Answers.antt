use Rattle.std.proofs.Common.{ap, subst, sym, rules, ◌∙◌}
use Rattle.rt_peer.specs.Pushes.{written}
use Rattle.rt_peer.specs.inside.Watched.{AreHeard, AreOf}
use Rattle.rt_peer.proofs.BoardLaws.{heard_none, of_none}
use Rattle.rt_peer.proofs.state.Board.put.Goals as goal

-- where memory is missing on the way, no view is left
pub invariant_of-self : goal.invariant_of-self
invariant_of-self c = (of_none _ _ (search rules), heard_none _ _ (search rules))

pub push_all-requires-clause-made : goal.push_all-requires-clause-made
push_all-requires-clause-made c =
    c.in_ok-write.ensures.after ∙ c.in_ok-write.ensures.tree
    ∙ ap (λ t. written t c.args.entries.now) (sym c.in_ok-write.ensures.before)

pub push_all-requires-clause-of : goal.push_all-requires-clause-of
push_all-requires-clause-of c =
    subst (λ t. AreOf t c.replace-views.result) (sym c.in_ok-write.ensures.before)
    (subst (AreOf c.self.inside.tree) (sym c.replace-views.ensures.value) c.self.invariant.0)

pub push_all-requires-clause-heard : goal.push_all-requires-clause-heard
push_all-requires-clause-heard c =
    subst (AreHeard c.self.inside.listens) (sym c.replace-views.ensures.value) c.self.invariant.1
