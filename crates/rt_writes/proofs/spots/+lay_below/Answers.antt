use Rattle.std.proofs.Common.{◌≡◌, Some, false, [], refl, sym, subst, rules}
use Rattle.std.specs.List.{All}
use Rattle.std.specs.List.Sorted.{IsStrictlySortedBy}
use Rattle.std.specs.BTreeMap.{get}
use Rattle.std.specs.Map.{keys_of}
use Rattle.rt_tree.specs.PathTree.{Path, key_cmp}
use Rattle.rt_writes.specs.Writes.{sets_whole}
use Rattle.rt_writes.specs.inside.ByNumber.{writes_of}
use Rattle.rt_writes.specs.inside.Spots.{below_of, AreApart, IsMergedAt, Laid, LaysAt, after}
use Rattle.rt_writes.proofs.LayLaws.{lays_none}
use Rattle.rt_writes.proofs.RowLaws.{laid_first, laid_next, laid_all, row_next}
use Rattle.rt_writes.proofs.spots.+lay_below.Goals as goal

pub returns-then-not-has_after-clause-laid : goal.returns-then-not-has_after-clause-laid
returns-then-not-has_after-clause-laid t c = λ x apart m none.
    let passed : c.has_after.result ≡ false = search rules in
    ([], refl, lays_none (writes_of c.args.writes.now) x c.args.spot.now c.args.last c.has_after.result m c.has_after.ensures.1 passed none)

pub loop-child-init : goal.loop-child-init
loop-child-init t c =
    let gives = c.into_iter-child-iterator.ensures.into_iter_gives in (
      laid_first (writes_of c.args.writes.now) c.args.spot.now c.args.last c.args.path.now c.args.tree c.into_iter-child-iterator.result gives.0,
      record {
        sorted = subst (λ r. IsStrictlySortedBy key_cmp (keys_of r)) (sym gives.0) gives.5;
        found = subst (All (λ e. get key_cmp (below_of c.args.spot.now) e.0 ≡ Some e.1)) (sym gives.0) gives.6;
      },
      c.requires.tree,
    )

pub loop-child-preserved : goal.loop-child-preserved
loop-child-preserved t c =
    let key = c.in-Some.field-0-0.now in
    let below = subst (λ l. (x : Path) → AreApart (writes_of c.args.writes.now) → IsMergedAt (writes_of c.args.writes.now) x c.in-Some.child.now → sets_whole (after l (writes_of c.args.writes.now)) x ≡ false
    → Laid (LaysAt (writes_of c.args.writes.now) x l) c.args.path.now c.in_ok-done.done c.in_ok-done-2.done) c.later.ensures c.in_ok-done-2.ensures.laid in (
      laid_next (writes_of c.args.writes.now) c.args.spot.now c.in-Some.child.now c.args.last c.last_here-here.result c.args.path.now c.args.tree
          c.loop-child.done c.in_ok-done.done c.in_ok-done-2.done key c.loop-child.child-iterator c.next.new.self
          c.in-Some.ensures.steps c.loop-child.invariant.1 c.last_here-here.ensures c.loop-child.invariant.0 c.in_ok-done.ensures.laid below,
      (row_next c.args.spot.now c.in-Some.child.now key c.loop-child.child-iterator c.next.new.self c.in-Some.ensures.steps c.loop-child.invariant.1).0,
      c.in_ok-done-2.ensures.shallow,
    )

pub returns-clause-laid : goal.returns-clause-laid
returns-clause-laid t c =
    λ x. laid_all x (writes_of c.args.writes.now) c.args.spot.now c.args.last c.args.path.now c.args.tree c.loop-child.done c.loop-child.child-iterator
    c.in-None.ensures.steps.0 (c.loop-child.invariant.0 x)
