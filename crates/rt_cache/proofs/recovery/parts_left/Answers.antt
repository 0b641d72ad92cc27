use Rattle.std.proofs.Common.{rules, ◌≡◌, ◌∙◌, ◌+◌, ◌<◌, ◌++◌, ◌∷◌, [], add-one, length, get_or, drop, append-nil, ap, not, List, sym, subst, IfOk, Some, None}
use Rattle.std.specs.List.{filter, filter_map, cons_option}
use Rattle.std.specs.Option.{option_map}
use lib.Dec.{T}
use Rattle.std.specs.FinMap as map_of
use Rattle.rt_tree.specs.PathTree.{path_cmp}
use Rattle.rt_tree.specs.Assignments.{have_overlap}
use Rattle.rt_query.specs.Queries.{Query}
use Rattle.rt_cache.specs.Recover.{reaches, with_regions}
use Rattle.rt_cache.specs.inside.Cuts.{part_below}
use Rattle.rt_cache.specs.inside.Held.{pair_of, pairs_of}
use Rattle.rt_cache.proofs.ByListens.{listed_apart, listed-drop, one_more_part}
use Rattle.rt_cache.proofs.Changes.{with_apart, with_sorted}
use Rattle.rt_cache.proofs.Parts.{all_dropped, if_ok}
use Rattle.rt_cache.proofs.Stays.{Regions}
use Rattle.rt_cache.proofs.recovery.parts_left.Goals as goal
use Rattle.rt_cache.proofs.recovery.parts_left.Goals.{in-Some+in_ok-push, in_default}

pub loop-query-preserved : goal.loop-query-preserved
loop-query-preserved c = λ kept lost.
    let ls : Regions = filter (λ r. not (reaches kept r.0)) (pairs_of c.args.regions.now) in
    let q : Query = c.query-item.result in
    let within : c.loop-query.query-index < length c.args.listens.now = search rules in
    let at : q ≡ get_or c.args.listens.now c.loop-query.query-index q = search rules in
    let rest : Regions = filter_map (part_below ls) (drop (c.loop-query.query-index + 1) c.args.listens.now) in
    let more : pairs_of c.loop-query.parts.items ++ cons_option (part_below ls q) rest ≡ filter_map (part_below ls) c.args.listens.now =
    (λ i. pairs_of c.loop-query.parts.items ++ cons_option (part_below ls (at i)) (filter_map (part_below ls) (drop (add-one c.loop-query.query-index i) c.args.listens.now)))
    ∙ ap (λ ps. pairs_of c.loop-query.parts.items ++ ps) (sym (listed-drop ls c.args.listens.now c.loop-query.query-index q within))
    ∙ c.loop-query.invariant kept lost in
    let made : option_map pair_of c.in_ok-part.field-0 ≡ part_below ls q =
    subst (λ r. IfOk r (λ part. option_map pair_of part ≡ part_below ls q)) c.in_ok-part.was (c.part_left.ensures kept lost) in
    let all = ap (λ o. pairs_of c.loop-query.parts.items ++ cons_option o rest) made ∙ more in
    elim c.match-branch-2.branch [
      | in-Some+in_ok-push w ↦
          let some : c.in_ok-part.field-0 ≡ Some w.in-Some.part = search rules in
          let pushed : c.match-branch-2.parts.items ≡ c.loop-query.parts.items ++ w.in-Some.part ∷ [] = search rules in
          ap (λ ps. pairs_of ps ++ rest) pushed
          ∙ one_more_part c.loop-query.parts.items w.in-Some.part rest _
          (ap (λ o. pairs_of c.loop-query.parts.items ++ cons_option (option_map pair_of o) rest) (sym some) ∙ all)
      | in_default w ↦
          let none : c.in_ok-part.field-0 ≡ None = search rules in
          let same : c.match-branch-2.parts.items ≡ c.loop-query.parts.items = search rules in
          ap (λ ps. pairs_of ps ++ rest) same
          ∙ ap (λ o. pairs_of c.loop-query.parts.items ++ cons_option (option_map pair_of o) rest) (sym none) ∙ all
    ]

-- the parts of all
pub in_order-requires : goal.in_order-requires
in_order-requires c =
    let kept : List Query = c.requires.lost.0 in
    let ls : Regions = filter (λ r. not (reaches kept r.0)) (pairs_of c.args.regions.now) in
    let parts : pairs_of c.loop-query.parts.items ≡ filter_map (part_below ls) c.args.listens.now =
    sym (append-nil (pairs_of c.loop-query.parts.items))
    ∙ ap (λ (queries : List Query). pairs_of c.loop-query.parts.items ++ filter_map (part_below ls) queries)
    (sym (all_dropped c.loop-query.query-index c.args.listens.now c.loop-query-test.false))
    ∙ c.loop-query.invariant kept c.requires.lost.1 in
    record { apart = ap have_overlap parts ∙ listed_apart c.args.listens.now ls c.requires.listens }

pub returns-clause-parts : goal.returns-clause-parts
returns-clause-parts c = λ kept lost.
    let ls : Regions = filter (λ r. not (reaches kept r.0)) (pairs_of c.args.regions.now) in
    let parts : pairs_of c.loop-query.parts.items ≡ filter_map (part_below ls) c.args.listens.now =
    sym (append-nil (pairs_of c.loop-query.parts.items))
    ∙ ap (λ (queries : List Query). pairs_of c.loop-query.parts.items ++ filter_map (part_below ls) queries)
    (sym (all_dropped c.loop-query.query-index c.args.listens.now c.loop-query-test.false))
    ∙ c.loop-query.invariant kept lost in
    subst (λ ps. IfOk c.in_order.result (λ sorted. pairs_of sorted.items ≡ with_regions [] ps)) parts c.in_order.ensures

pub returns-clause-sorted : goal.returns-clause-sorted
returns-clause-sorted c =
    if_ok c.in_order.result (λ sorted. pairs_of sorted.items ≡ with_regions [] (pairs_of c.loop-query.parts.items)) _ c.in_order.ensures
    (λ sorted e. subst (λ ps. T (map_of.is_sorted path_cmp ps)) (sym e) (with_sorted [] (pairs_of c.loop-query.parts.items) tt))

pub returns-clause-apart : goal.returns-clause-apart
returns-clause-apart c =
    let kept : List Query = c.requires.lost.0 in
    let ls : Regions = filter (λ r. not (reaches kept r.0)) (pairs_of c.args.regions.now) in
    let parts : Regions = filter_map (part_below ls) c.args.listens.now in
    if_ok c.in_order.result (λ sorted. pairs_of sorted.items ≡ with_regions [] parts) _ (returns-clause-parts c kept c.requires.lost.1)
    (λ sorted e. ap have_overlap e ∙ with_apart [] parts (listed_apart c.args.listens.now ls c.requires.listens))
