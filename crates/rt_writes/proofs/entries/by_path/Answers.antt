use Rattle.std.proofs.Common.{◌≡◌, length, take, ap, ◌∙◌, arith, rules}
use Rattle.std.specs.Borrow.{Bor}
use Rattle.std.proofs.Math.Seq.{take-length}
use Rattle.std.proofs.lemmas.Fn.{always_returns_same}
use Rattle.std.proofs.lemmas.List.Sorted.{IsPermutation-map}
use Rattle.rt_tree.specs.Assignments.{Assignment, have_overlap}
use Rattle.rt_writes.proofs.OverlapLaws.{seen, is_before, before_ranks, in_order, have_overlap-IsPermutation}
use Rattle.rt_writes.proofs.entries.by_path.Goals as goal

pub returns-clause-same : goal.returns-clause-same
returns-clause-same c =
    let end : c.loop-entry.entry-index ≡ length c.args.entries.now = omega arith in
    let all : seen c.loop-entry.sorted.items ≡ c.args.entries.now = c.loop-entry.invariant ∙ ap (λ n. take n c.args.entries.now) end ∙ take-length c.args.entries.now in
    have_overlap-IsPermutation _ _ (IsPermutation-map (λ (e : Bor Assignment). e.now) _ _ c.sort_unstable_by.ensures.permutation)
    ∙ ap have_overlap all

pub returns-clause-sorted : goal.returns-clause-sorted
returns-clause-sorted c = in_order _ (c.sort_unstable_by.ensures.sorted is_before before_ranks (always_returns_same _ _ _ (λ a r f' h. search rules)))
