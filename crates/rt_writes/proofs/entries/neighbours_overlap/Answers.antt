use Rattle.std.proofs.Common.{◌≡◌, ◌+◌, ◌-◌, ◌≤◌, suc, length, get_or, drop, false, is_some, sym, ap, ◌∙◌, arith, rules}
use Rattle.rt_tree.specs.Leaves.{strip}
use Rattle.rt_tree.specs.Assignments.{have_overlap}
use Rattle.rt_writes.proofs.OverlapLaws.{seen, none_there, at_end}
use Rattle.rt_writes.proofs.entries.neighbours_overlap.Goals as goal

pub loop-next-preserved : goal.loop-next-preserved
loop-next-preserved c =
    let d = c.index-sorted-next.result in
    let e = c.index-sorted-next-in-loop-next.result in
    let es = c.args.sorted.now in
    let behind : suc (c.loop-next.next - 1) ≡ c.loop-next.next = omega arith in
    let on : c.loop-next.next ≡ c.loop-next.next + 1 - 1 = omega arith in
    let apart : is_some (strip (get_or es (c.loop-next.next - 1) d).now.0 (get_or es c.loop-next.next e).now.0) ≡ false = search rules in
    c.loop-next.invariant ∙ none_there es (c.loop-next.next - 1) c.loop-next.next d e c.requires behind c.loop-next-test.true apart ∙ ap (λ k. have_overlap (seen (drop k es))) on

pub returns : goal.returns
returns c =
    let end : length c.args.sorted.now ≤ suc (c.loop-next.next - 1) = omega arith in
    sym (c.loop-next.invariant ∙ at_end c.args.sorted.now (c.loop-next.next - 1) end)
