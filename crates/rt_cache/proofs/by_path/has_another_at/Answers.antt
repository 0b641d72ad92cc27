use Rattle.std.proofs.Common.{rules, ◌≡◌, ◌<◌, ◌≤◌, ◌&&◌, ap, sym, subst, arith, length, get_or, true, false, not}
use Rattle.std.proofs.lemmas.List.Elements.{at_read}
use Rattle.std.specs.List.Sorted.{IsPartitionPoint}
use Rattle.std.specs.Ordering.{is_lt}
use Rattle.rt_tree.specs.PathTree.{path_cmp, path_eq}
use Rattle.rt_query.specs.QueryEq.{query_eq}
use Rattle.rt_cache.specs.Brought.{is_another_at}
use Rattle.rt_cache.proofs.ByPaths.{before_more, any_at, none_of}
use Rattle.rt_cache.proofs.ByQueries.{by_paths}
use Rattle.rt_cache.proofs.Suppliers.{in_front, another_left}
use Rattle.rt_cache.proofs.by_path.has_another_at.Goals as goal

pub loop-place-init : goal.loop-place-init
loop-place-init g c =
    let q = g.T.HasQuery.query_of in
    let xs = c.args.items.now in
    let point : IsPartitionPoint (λ x. is_lt (path_cmp (q x).path (c.args.query.now).path) ≡ true) (λ x. is_lt (path_cmp (q x).path (c.args.query.now).path) ≡ false) xs c.first_from-place.result =
    subst (λ z. IsPartitionPoint (λ x. is_lt (path_cmp (q x).path z) ≡ true) (λ x. is_lt (path_cmp (q x).path z) ≡ false) xs c.first_from-place.result) c.path.ensures c.first_from-place.ensures.point in (
      c.first_from-place.ensures.within,
      λ k d lt. in_front c.args.query.now (q (get_or xs k d)) (point.0 k d (omega arith) lt),
      λ k d le lt. point.1 k d le lt,
    )

pub loop-place-preserved : goal.loop-place-preserved
loop-place-preserved g c =
    let q = g.T.HasQuery.query_of in
    let xs = c.args.items.now in
    let item = c.index-items-place.result in
    let within : c.loop-place.place < length xs = search rules in
    let same : not (query_eq (q (get_or xs c.loop-place.place item)) c.args.query.now) ≡ false = search rules in (
      omega (arith, within),
      before_more (λ x. is_another_at c.args.query.now (q x)) xs c.loop-place.place item within (ap (λ b. b && path_eq (q (get_or xs c.loop-place.place item)).path (c.args.query.now).path) same) c.loop-place.invariant.1,
      λ k d le lt. c.loop-place.invariant.2 k d (omega (arith, le)) lt,
    )

pub returns-then-ne : goal.returns-then-ne
returns-then-ne g c =
    let q = g.T.HasQuery.query_of in
    let xs = c.args.items.now in
    let item = c.index-items-place.result in
    let within : c.loop-place.place < length xs = search rules in
    let at : item ≡ get_or xs c.loop-place.place item = search rules in
    let other : path_eq (q item).path (c.args.query.now).path ≡ false = search rules in
    sym (another_left q c.args.query.now xs c.loop-place.place (by_paths q xs c.requires) within
    (λ d. c.loop-place.invariant.2 c.loop-place.place d (omega arith) within)
    (at_read xs (λ x. path_eq (q x).path (c.args.query.now).path ≡ false) c.loop-place.place item within at other) c.loop-place.invariant.1)

pub returns-then-is_another : goal.returns-then-is_another
returns-then-is_another g c =
    let q = g.T.HasQuery.query_of in
    let xs = c.args.items.now in
    let item = c.index-items-place.result in
    let within : c.loop-place.place < length xs = search rules in
    let own : not (query_eq (q (get_or xs c.loop-place.place item)) c.args.query.now) ≡ true = search rules in
    let path : path_eq (q (get_or xs c.loop-place.place item)).path (c.args.query.now).path ≡ true = search rules in
    sym (any_at (λ x. is_another_at c.args.query.now (q x)) xs c.loop-place.place item within ((λ i. own i && path i)))

pub returns : goal.returns
returns g c =
    let q = g.T.HasQuery.query_of in
    let xs = c.args.items.now in
    let done : length xs ≤ c.loop-place.place = search rules in
    sym (none_of (λ x. is_another_at c.args.query.now (q x)) xs (λ k d lt. c.loop-place.invariant.1 k d (omega (arith, lt, done))))

pub first_from-place-requires : goal.first_from-place-requires
first_from-place-requires g c = by_paths g.T.HasQuery.query_of c.args.items.now c.requires
