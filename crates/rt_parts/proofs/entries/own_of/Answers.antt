use Rattle.std.proofs.Common.{◌≡◌, ◌-◌, ℕ, List, true, false, length, take, drop, rules, sym, subst}
use Rattle.std.specs.List.Sorted.{IsPartitionedBy, IsPartitionPoint}
use Rattle.std.specs.Ordering.{is_le, nat_cmp}
use Rattle.std.proofs.lemmas.Cmp.{nat_cmp_total}
use Rattle.std.proofs.lemmas.List.Sorted.{IsPartitionPoint-from_clause}
use Rattle.rt_parts.proofs.PairLaws.{own_found}
use Rattle.rt_parts.proofs.PlaceLaws.{paths_first, up_drop}
use Rattle.rt_parts.proofs.PushLaws.{rest_is}
use Rattle.rt_parts.proofs.entries.own_of.Goals as goal

pub returns : goal.returns
returns c = λ p e.
    let ls : List (ℕ × ℕ) = c.args.pairs.now in
    let n : ℕ = c.args.number in
    let first : ℕ = c.first_of-first.result in
    let count : ℕ = c.partition_point-count.result in
    let rest : List (ℕ × ℕ) = take (length ls - first) (drop first ls) in
    let parted : IsPartitionedBy (λ (o : ℕ × ℕ). is_le (nat_cmp o.0 n)) rest =
    subst (IsPartitionedBy (λ (o : ℕ × ℕ). is_le (nat_cmp o.0 n))) (sym (rest_is ls first)) (paths_first nat_cmp nat_cmp_total (λ (o : ℕ × ℕ). o) n (drop first ls) (up_drop nat_cmp nat_cmp_total (λ (o : ℕ × ℕ). o) first ls c.requires)) in
    let point : IsPartitionPoint (λ (o : ℕ × ℕ). is_le (nat_cmp o.0 n) ≡ true) (λ (o : ℕ × ℕ). is_le (nat_cmp o.0 n) ≡ false) rest count =
    IsPartitionPoint-from_clause (λ (o : ℕ × ℕ). is_le (nat_cmp o.0 n)) rest count c.partition_point-count.ensures.partitioned parted (λ a r f' k. search rules) in
    own_found ls rest first count n p (rest_is ls first) c.first_of-first.ensures.within c.partition_point-count.ensures.bound c.first_of-first.ensures.point point e
