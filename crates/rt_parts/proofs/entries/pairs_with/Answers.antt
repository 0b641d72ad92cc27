use Rattle.std.proofs.Common.{◌==◌, ◌&&◌, ◌≤◌, ℕ, rules, arith, sym, ◌∙◌}
use Rattle.rt_parts.proofs.PairLaws.{all_more, all_none, only_more, only_none}
use Rattle.rt_parts.proofs.entries.pairs_with.Goals as goal

pub loop-at-init : goal.loop-at-init
loop-at-init c = record {
  all = all_none c.args.numbers.now c.new-pairs.result.items;
  only = only_none c.args.numbers.now c.new-pairs.result.items c.new-pairs.ensures.items;
}

pub loop-at-preserved : goal.loop-at-preserved
loop-at-preserved c = record {
  all = all_more c.args.numbers.now c.loop-at.pairs.items c.push_each.new.pairs.items c.loop-at.at c.in_ok-push_each.ensures c.loop-at.invariant.all;
  only = only_more c.args.numbers.now c.loop-at.pairs.items c.push_each.new.pairs.items c.loop-at.at c.in_ok-push_each.ensures c.loop-at.invariant.only;
}

pub returns-clause-all : goal.returns-clause-all
returns-clause-all c =
    let done : c.args.count ≤ c.loop-at.at = search rules in
    λ n i within e. c.sort_pairs.ensures.same (λ (o : ℕ × ℕ). n == o.0 && i == o.1) ∙ c.loop-at.invariant.all n i (omega (arith, within, done)) e

pub returns-clause-only : goal.returns-clause-only
returns-clause-only c = λ n e. c.loop-at.invariant.only n (sym (c.sort_pairs.ensures.same (λ (o : ℕ × ℕ). n == o.0)) ∙ e)
