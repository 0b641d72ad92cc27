use Rattle.std.proofs.Common.{◌≡◌, ◌∷◌, ap, sym, subst, ◌∙◌, arith, length, not, rules}
use Rattle.std.specs.List.{filter}
use Rattle.rt_peer.specs.inside.Placed.{is_bare, AllMarked}
use Rattle.rt_peer.proofs.PlacedLaws.{all_unmarked, bare_left, marked_left}
use Rattle.rt_peer.proofs.actions.drop_bare.Goals as goal

pub loop-place-preserved : goal.loop-place-preserved
loop-place-preserved c =
    let p = c.in-Some.place in
    let es = c.loop-place.by_place.entries in
    let marks : c.loop-place.empty.keys ≡ p ∷ c.pop_first.new.self.keys = c.in-Some.ensures.removal in
    record {
      order = c.drop_one.ensures.order;
      marked = subst (AllMarked c.pop_first.new.self.keys) (sym c.drop_one.ensures.left)
          (marked_left p c.pop_first.new.self.keys es c.loop-place.invariant.order
          (subst (λ ks. AllMarked ks es) marks c.loop-place.invariant.marked));
      counted = c.drop_one.ensures.counted;
      left = ap (filter (λ e. not (is_bare e))) c.drop_one.ensures.left ∙ bare_left p es ∙ c.loop-place.invariant.left;
    }

pub loop-place-smaller : goal.loop-place-smaller
loop-place-smaller c =
    let marks : c.loop-place.empty.keys ≡ c.in-Some.place ∷ c.pop_first.new.self.keys = c.in-Some.ensures.removal in
    omega (arith, ap length marks)

pub returns-clause-left : goal.returns-clause-left
returns-clause-left c =
    let es = c.loop-place.by_place.entries in
    let none : length c.loop-place.empty.keys ≡ 0 = search rules in
    all_unmarked c.loop-place.empty.keys es none c.loop-place.invariant.marked ∙ c.loop-place.invariant.left
