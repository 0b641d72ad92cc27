use Rattle.std.proofs.Common.{◌≡◌, ◌<◌, ◌==◌, ◌&&◌, ℕ, false, rules, arith}
use Rattle.std.specs.Ordering.{is_lt}
use Rattle.std.proofs.lemmas.List.{length-take-le}
use Rattle.rt_tree.specs.PathTree.{path_cmp}
use Rattle.rt_tree.specs.Assignments.{is_at_or_above}
use Rattle.rt_parts.specs.inside.Placed.{is_paired}
use Rattle.rt_parts.proofs.MetLaws.{above_more, all_front, order_front}
use Rattle.rt_parts.proofs.places.push_above.Goals as goal

pub loop-left-init : goal.loop-left-init
loop-left-init c = record {
  within = omega arith;
  kept = λ p e. e;
  all = λ k d ge lt e. absurd (omega (arith, ge, lt));
}

pub push_last-requires : goal.push_last-requires
push_last-requires c =
    let within = c.loop-left.invariant.within in
    let some : 0 < c.loop-left.left = search rules in
    record {
      order = order_front c.loop-left.left c.args.places.now within c.requires.order;
      front = all_front (λ x. is_lt (path_cmp c.args.path.now x.path) ≡ false) c.loop-left.left c.args.places.now within c.requires.front;
      some = omega (arith, some, length-take-le c.loop-left.left c.args.places.now within);
    }

pub loop-left-preserved : goal.loop-left-preserved
loop-left-preserved c =
    let within = c.loop-left.invariant.within in
    let fewer = c.in_ok-left.ensures.fewer in
    record {
      within = omega (arith, within, fewer, length-take-le c.loop-left.left c.args.places.now within);
      kept = λ p e. c.in_ok-left.ensures.kept p (c.loop-left.invariant.kept p e);
      all = above_more (λ x. is_at_or_above x.path c.args.path.now) (is_paired c.args.entry c.loop-left.pairs.items) (is_paired c.args.entry c.push_last.new.pairs.items) c.args.places.now c.loop-left.left c.in_ok-left.left within
          (λ x e. c.in_ok-left.ensures.kept (λ (o : ℕ × ℕ). x.number == o.0 && c.args.entry == o.1) e) c.in_ok-left.ensures.all c.loop-left.invariant.all;
    }
