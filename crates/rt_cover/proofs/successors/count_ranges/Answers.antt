use Rattle.std.proofs.Common.{rules, ◌≡◌, ◌<◌, List, true, length, take, get_or, subst, arith}
use Rattle.std.specs.List.{All}
use Rattle.rt_cover.specs.Cover.{Tagged}
use Rattle.rt_cover.specs.inside.Endings.{is_range_at}
use Rattle.rt_cover.proofs.SuppliedLaws.{all_more}
use Rattle.rt_cover.proofs.successors.count_ranges.Goals as goal

pub loop-count-init : goal.loop-count-init
loop-count-init c = λ k d lt. absurd (omega (arith, lt))

pub loop-count-preserved : goal.loop-count-preserved
loop-count-preserved c =
    let ks : List Tagged = c.args.listens.now in
    let k : Tagged = c.index-listens-count.result in
    let is : k ≡ get_or ks c.loop-count.count k = search rules in
    let yes : is_range_at c.args.path.now k ≡ true = search rules in
    let within : c.loop-count.count < length ks = search rules in
    all_more (λ (x : Tagged). is_range_at c.args.path.now x ≡ true) ks c.loop-count.count k within is yes c.loop-count.invariant

pub returns-clause-there : goal.returns-clause-there
returns-clause-there c =
    let ks : List Tagged = c.args.listens.now in
    let end : c.loop-count.count ≡ length ks = search rules in
    subst (λ n. All (λ (k : Tagged). is_range_at c.args.path.now k ≡ true) (take n ks)) end c.loop-count.invariant
