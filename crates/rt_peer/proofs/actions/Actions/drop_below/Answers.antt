use Rattle.std.proofs.Common.{◌≡◌, ◌∷◌, refl, sym, subst, ◌∙◌}
use Rattle.std.specs.List.{All}
use Rattle.std.proofs.lemmas.List.Elements.{All-head, All-tail}
use Rattle.rt_peer.specs.declared.actions.ActionKey.{ActionKey}
use Rattle.rt_peer.specs.inside.Placed.{AreListed}
use Rattle.rt_peer.proofs.CutLaws.{all_left, leaves_next, listed_next}
use Rattle.rt_peer.proofs.actions.Actions.drop_below.Goals as goal

pub loop-place-init : goal.loop-place-init
loop-place-init c =
    let n = c.args.connection in
    let left = c.into_iter-place-iterator.result in
    let is : left ≡ c.in_ok-places.places.keys = c.into_iter-place-iterator.ensures.into_iter_gives ∙ c.iter-place-items.ensures.rest in
    record {
      own = subst (All (λ (p : ActionKey). p.connection ≡ n)) (sym is) c.in_ok-places.ensures.own;
      listed = subst (λ ps. AreListed n c.args.path.now ps c.self.inside.placed) (sym is) c.in_ok-places.ensures.listed;
      leaves = refl;
    }

pub loop-place-preserved : goal.loop-place-preserved
loop-place-preserved c =
    let n = c.args.connection in
    let q = c.args.path.now in
    let p = c.in-Some.place.now in
    let rest = c.next.new.self in
    let steps : c.loop-place.place-iterator ≡ p ∷ rest = c.in-Some.ensures.steps in
    let own : All (λ (p : ActionKey). p.connection ≡ n) (p ∷ rest) = subst (All (λ (p : ActionKey). p.connection ≡ n)) steps c.loop-place.invariant.own in
    record {
      own = All-tail (λ (p : ActionKey). p.connection ≡ n) p rest own;
      listed = listed_next n q p rest c.loop-place.place-iterator c.loop-place.self-inside.placed c.cut.new.self steps c.in_ok-cut.ensures.cut
          c.cut.ensures.order c.loop-place.invariant.listed;
      leaves = leaves_next n q p c.loop-place.self-inside.placed c.cut.new.self c.self.inside.placed c.in_ok-cut.ensures.cut
          (All-head (λ (p : ActionKey). p.connection ≡ n) p rest own) c.loop-place.invariant.leaves;
    }

pub returns : goal.returns
returns c =
    all_left c.args.connection c.args.path.now c.loop-place.place-iterator c.loop-place.self-inside.placed c.drop_bare.new.self c.self.inside.placed
    c.args.self.now c.in-None.ensures.steps.0 c.drop_bare.ensures c.loop-place.invariant.listed c.loop-place.invariant.leaves c.self.view_is
