use Rattle.std.proofs.Common.{◌≡◌, Some, false, sym, subst, rules, ◌∙◌}
use Rattle.std.specs.List.{All}
use Rattle.std.specs.List.Sorted.{IsStrictlySortedBy}
use Rattle.std.specs.BTreeMap.{get}
use Rattle.std.specs.Map.{keys_of}
use Rattle.rt_tree.specs.PathTree.{key_cmp}
use Rattle.rt_writes.specs.inside.ByNumber.{writes_of}
use Rattle.rt_writes.specs.inside.Spots.{below_of}
use Rattle.rt_writes.proofs.LayLaws.{lays_none, merged_child}
use Rattle.rt_writes.proofs.RowLaws.{laid_first, laid_more, laid_all, row_next}
use Rattle.rt_writes.proofs.spots.lay_children.Goals as goal

pub returns-then-not-has_after-clause-laid : goal.returns-then-not-has_after-clause-laid
returns-then-not-has_after-clause-laid c =
    let passed : c.has_after.result ≡ false = search rules in
    (lays_none (writes_of c.args.writes.now) c.args.path.now c.args.spot.now c.args.last c.has_after.result c.requires.merged c.has_after.ensures.1 passed c.requires.none).same c.args.tree

pub loop-key-init : goal.loop-key-init
loop-key-init c =
    let gives = c.into_iter-key-iterator.ensures.into_iter_gives in (
      laid_first (writes_of c.args.writes.now) c.args.spot.now c.args.last c.args.path.now c.args.tree c.into_iter-key-iterator.result gives.0 c.args.path.now,
      record {
        sorted = subst (λ r. IsStrictlySortedBy key_cmp (keys_of r)) (sym gives.0) gives.5;
        found = subst (All (λ e. get key_cmp (below_of c.args.spot.now) e.0 ≡ Some e.1)) (sym gives.0) gives.6;
      },
      c.requires.tree,
    )

pub lay_child-requires-clause-merged : goal.lay_child-requires-clause-merged
lay_child-requires-clause-merged c =
    merged_child (writes_of c.args.writes.now) c.args.path.now c.args.spot.now c.in-Some.child.now c.in-Some.key.now c.requires.merged
    (row_next c.args.spot.now c.in-Some.child.now c.in-Some.key.now c.loop-key.key-iterator c.next.new.self c.in-Some.ensures.steps c.loop-key.invariant.1).1

pub loop-key-preserved : goal.loop-key-preserved
loop-key-preserved c = (
  laid_more c.args.path.now (writes_of c.args.writes.now) c.args.spot.now c.in-Some.child.now c.args.last c.args.path.now c.args.tree
      c.loop-key.done c.in_ok-done.done c.in-Some.key.now c.loop-key.key-iterator c.next.new.self
      c.in-Some.ensures.steps c.loop-key.invariant.1 c.loop-key.invariant.0 (λ apart m none. c.in_ok-done.ensures.laid),
  (row_next c.args.spot.now c.in-Some.child.now c.in-Some.key.now c.loop-key.key-iterator c.next.new.self c.in-Some.ensures.steps c.loop-key.invariant.1).0,
  c.in_ok-done.ensures.shallow,
)

pub returns-clause-laid : goal.returns-clause-laid
returns-clause-laid c =
    let it = laid_all c.args.path.now (writes_of c.args.writes.now) c.args.spot.now c.args.last c.args.path.now c.args.tree c.loop-key.done c.loop-key.key-iterator
    c.in-None.ensures.steps.0 c.loop-key.invariant.0 c.requires.apart c.requires.merged c.requires.none in
    it.1 ∙ it.2.same c.args.tree
