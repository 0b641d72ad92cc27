use Rattle.std.proofs.Common.{◌≡◌, List, true, false, rules, sym, ap, subst, ◌∙◌}
use Rattle.std.specs.List.{list_any}
use Rattle.std.specs.List.Sorted.{IsPartitionPoint}
use Rattle.std.proofs.lemmas.List.Sorted.{IsPartitionPoint-from_clause}
use Rattle.rt_tree.specs.PathTree.{Path}
use Rattle.rt_tree.specs.Assignments.{is_at_or_above}
use Rattle.rt_parts.specs.declared.places.ListenerPlace.{ListenerPlace}
use Rattle.rt_parts.specs.inside.Placed.{HaveFrom, is_paired}
use Rattle.rt_parts.proofs.MetLaws.{under_found, under_parted}
use Rattle.rt_parts.proofs.PairLaws.{keeps_pairs}
use Rattle.rt_parts.proofs.PushLaws.{on_ok}
use Rattle.rt_parts.proofs.places.push_under.Goals as goal

pub returns-clause-kept : goal.returns-clause-kept
returns-clause-kept c = on_ok c.push_all.result c.push_all.ensures (λ e. λ p is. ap (list_any p) e ∙ keeps_pairs c.args.pairs.now.items _ p is)

pub returns-clause-all : goal.returns-clause-all
returns-clause-all c =
    let ls : List ListenerPlace = c.args.places.now in
    let p : Path = c.args.path.now in
    let count = c.partition_point-count.result in
    let point : IsPartitionPoint (λ (x : ListenerPlace). is_at_or_above p x.path ≡ true) (λ (x : ListenerPlace). is_at_or_above p x.path ≡ false) ls count =
    IsPartitionPoint-from_clause (λ (x : ListenerPlace). is_at_or_above p x.path) ls count c.partition_point-count.ensures.partitioned (under_parted p ls c.requires.order c.requires.behind) (λ a r f' k. search rules) in
    on_ok c.push_all.result c.push_all.ensures (λ e. subst (λ ps. HaveFrom (λ x. is_at_or_above p x.path) (is_paired c.args.entry ps) ls 0) (sym e)
    (under_found p ls c.args.pairs.now.items c.args.entry count c.partition_point-count.ensures.bound point))
