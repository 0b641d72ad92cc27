use Rattle.std.proofs.Common.{◌≡◌, ◌+◌, ◌∷◌, [], ◌++◌, List, take, sym, subst, refl, ap, ◌∙◌}
use Rattle.std.proofs.lemmas.List.{take_all}
use Rattle.std.proofs.lemmas.List.Elements.{All-get_or}
use Rattle.rt_tree.specs.PathTree.{Key}
use Rattle.rt_tree.specs.Children.{children_of}
use Rattle.rt_view.specs.declared.seen.Seen.{Seen}
use Rattle.rt_view.specs.inside.ViewIndex.{SetsChild, SetsNoted}
use Rattle.rt_view.specs.inside.Telling.{IsFit, IsSeen, keys_in}
use Rattle.rt_view.proofs.TellLaws.{keys_in-more, next_taken}
use Rattle.rt_view.proofs.TreeLaws.{set_more}
use Rattle.rt_view.proofs.difference.set_noted.Goals as goal

pub set_child-requires-clause-fits : goal.set_child-requires-clause-fits
set_child-requires-clause-fits c =
    subst (λ (s : Seen). IsFit s) (sym c.one-item.is) (All-get_or IsFit c.args.seen.now c.loop-one.one-index c.one-item.result c.loop-one-test.true c.requires.fits)

pub loop-one-init : goal.loop-one-init
loop-one-init c = (c.requires.object, λ t shown had k. refl)

pub loop-one-preserved : goal.loop-one-preserved
loop-one-preserved c = (
  c.in_ok-set_child.ensures.object,
  λ t shown had.
      let seen : List Seen = c.args.seen.now in
      let one : Seen = c.one-item.result in
      let ks : List Key = keys_in (take c.loop-one.one-index seen) in
      let next : keys_in (take (c.loop-one.one-index + 1) seen) ≡ ks ++ one.key ∷ [] =
      ap keys_in (next_taken seen c.loop-one.one-index one c.loop-one-test.true c.one-item.is) ∙ keys_in-more (take c.loop-one.one-index seen) one in
      let at : IsSeen t shown one = subst (λ (s : Seen). IsSeen t shown s) (sym c.one-item.is) (All-get_or (IsSeen t shown) seen c.loop-one.one-index one c.loop-one-test.true had) in
      let more = subst (λ o. SetsChild one.key o (children_of c.loop-one.tree) (children_of c.set_child.new.tree)) at.1 c.in_ok-set_child.ensures.set in
      subst (λ js. SetsNoted js shown (children_of c.args.tree.now) (children_of c.set_child.new.tree)) (sym next)
      (set_more ks one.key shown c.args.tree.now c.loop-one.tree c.set_child.new.tree (c.loop-one.invariant.1 t shown had) more),
)

pub returns-clause-set : goal.returns-clause-set
returns-clause-set c t shown had =
    subst (λ (ws : List Seen). SetsNoted (keys_in ws) shown (children_of c.args.tree.now) (children_of c.loop-one.tree)) (take_all c.loop-one.one-index c.args.seen.now c.loop-one-test.false)
    (c.loop-one.invariant.1 t shown had)
