use Rattle.std.proofs.Common.{rules, ◌≡◌, ◌∙◌, ap, sym, subst, not}
use lib.Dec.{T}
use Rattle.std.specs.List.{filter, list_any}
use Rattle.std.specs.FinMap as map_of
use Rattle.std.specs.FinMap.Entries.{is_sorted-where_key}
use Rattle.rt_tree.specs.PathTree.{path_cmp, path_eq}
use Rattle.rt_tree.specs.Assignments.{is_at_or_above}
use Rattle.rt_cache.specs.inside.Held.{pair_of, pairs_of}
use Rattle.rt_cache.proofs.InPlace.{none_at, pairs_of-filter}
use Rattle.rt_cache.proofs.regions.begin.Goals as goal

pub insert-requires-clause-absent : goal.insert-requires-clause-absent
insert-requires-clause-absent c =
    let pair : pair_of c.in_ok-region.region ≡ (c.args.path.now, c.args.tree.now) = search rules in
    (λ i. list_any (λ r. path_eq (pair i).0 r.path) (c.remove_under.ensures.left i)) ∙ none_at c.args.path.now c.reserve.new.self.items

pub insert-requires-clause-sorted : goal.insert-requires-clause-sorted
insert-requires-clause-sorted c =
    subst (λ rs. T (map_of.is_sorted path_cmp rs)) (sym (ap pairs_of c.remove_under.ensures.left ∙ pairs_of-filter c.args.path.now c.reserve.new.self.items))
    (is_sorted-where_key path_cmp (λ p. not (is_at_or_above c.args.path.now p)) (pairs_of c.reserve.new.self.items)
    (subst (λ rs. T (map_of.is_sorted path_cmp (pairs_of rs))) (sym c.reserve.ensures.items) c.requires.sorted))

pub returns-clause-ok : goal.returns-clause-ok
returns-clause-ok c =
    let pair : pair_of c.in_ok-region.region ≡ (c.args.path.now, c.args.tree.now) = search rules in
    c.insert.ensures.placed
    ∙ (λ i. map_of.put path_cmp (pair i).0 (pair i).1 (pairs_of (c.remove_under.ensures.left i)))
    ∙ ap (map_of.put path_cmp c.args.path.now c.args.tree.now) (pairs_of-filter c.args.path.now c.reserve.new.self.items)
    ∙ ap (λ rs. map_of.put path_cmp c.args.path.now c.args.tree.now (filter (λ r. not (is_at_or_above c.args.path.now r.0)) (pairs_of rs))) c.reserve.ensures.items
