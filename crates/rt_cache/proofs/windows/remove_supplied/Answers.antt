use Rattle.std.proofs.Common.{rules, ◌≡◌, ◌∙◌, ◌+◌, ◌<◌, ◌≤◌, ℕ, arith, List, is_some, ap, sym, subst, not, length, get_or, refl, true, false}
use Rattle.std.specs.List.{filter, remove}
use Rattle.std.specs.List.Sorted.{IsPartitionPoint}
use Rattle.std.specs.Ordering.{is_lt}
use Rattle.std.proofs.lemmas.List.Edits.{length-remove, get_or-remove_below, get_or-remove_above}
use Rattle.std.proofs.lemmas.List.Elements.{at_read}
use Rattle.rt_tree.specs.PathTree.{path_cmp, path_eq}
use Rattle.rt_query.specs.Queries.{Query}
use Rattle.rt_query.specs.QueryOrder.{query_cmp}
use Rattle.rt_cache.specs.declared.windows.Window.{Window}
use Rattle.rt_cache.specs.inside.ByPath.{AreByQuery, query_of, is_other_supplier}
use Rattle.rt_cache.proofs.Apart.{none_lesser, none_limited}
use Rattle.rt_cache.proofs.ByPaths.{before_more, none_of_path_left}
use Rattle.rt_cache.proofs.ByQueries.{by_paths, path_not_lesser, by_query-remove}
use Rattle.rt_cache.proofs.Stamps.{filter-remove_none}
use Rattle.rt_cache.proofs.Suppliers.{supplied_of_path, left_beside}
use Rattle.rt_cache.proofs.windows.remove_supplied.Goals as goal

pub loop-place-init : goal.loop-place-init
loop-place-init c =
    let ws : List Window = c.args.windows.now.items in
    let q : Query = c.args.query.now in
    let point : IsPartitionPoint (λ (x : Window). is_lt (query_cmp x.query q) ≡ true) (λ (x : Window). is_lt (query_cmp x.query q) ≡ false) ws c.first_of-place.result =
    subst (λ (xs : List Window). IsPartitionPoint (λ (x : Window). is_lt (query_cmp x.query q) ≡ true) (λ (x : Window). is_lt (query_cmp x.query q) ≡ false) xs c.first_of-place.result) c.deref.ensures.value c.first_of-place.ensures.point in
    let within : c.first_of-place.result ≤ length ws = search rules in (
      c.requires.order,
      within,
      λ k d lt. none_lesser q (get_or ws k d).query c.requires.filtered (point.0 k d (omega arith) lt),
      λ k d le lt. path_not_lesser q (get_or ws k d).query (point.1 k d le lt),
      refl,
    )

pub returns-then-is_some-clause-left : goal.returns-then-is_some-clause-left
returns-then-is_some-clause-left c =
    let ws : List Window = c.args.windows.now.items in
    let q : Query = c.args.query.now in
    let limit : is_some q.limit ≡ true = search rules in
    left_beside q ws ws (λ k d lt. none_limited q (get_or ws k d).query c.requires.filtered limit) refl

pub loop-place-preserved-then-is_other_supplier : goal.loop-place-preserved-then-is_other_supplier
loop-place-preserved-then-is_other_supplier c =
    let ws : List Window = c.loop-place.windows.items in
    let q : Query = c.args.query.now in
    let n : ℕ = c.loop-place.place in
    let item : Window = c.index.result.now in
    let within : n < length ws = search rules in
    let supplied : is_other_supplier q (get_or ws n item).query ≡ true = search rules in
    let left : c.remove.new.self.items ≡ remove ws n = search rules in
    let fewer : length (remove ws n) + 1 ≡ length ws = length-remove ws n within in (
      subst (λ (xs : List Window). AreByQuery query_of xs) (sym left) (by_query-remove query_of ws n c.loop-place.invariant.0),
      omega (arith, ap length left, fewer, within),
      λ k d lt. ap (λ (xs : List Window). is_other_supplier q (get_or xs k d).query) left
          ∙ ap (λ (w : Window). is_other_supplier q w.query) (get_or-remove_below ws n d k lt within) ∙ c.loop-place.invariant.2 k d lt,
      λ k d le lt. ap (λ (xs : List Window). is_lt (path_cmp ((get_or xs k d).query).path q.path)) left
          ∙ ap (λ (w : Window). is_lt (path_cmp (w.query).path q.path)) (get_or-remove_above ws n d k le within)
          ∙ c.loop-place.invariant.3 (k + 1) d (omega (arith, le)) (omega (arith, lt, ap length left, fewer)),
      ap (filter (λ (w : Window). not (is_other_supplier q w.query))) left
          ∙ filter-remove_none (λ (w : Window). not (is_other_supplier q w.query)) ws n item within (ap not supplied) ∙ c.loop-place.invariant.4,
    )

pub loop-place-preserved : goal.loop-place-preserved
loop-place-preserved c =
    let ws : List Window = c.loop-place.windows.items in
    let q : Query = c.args.query.now in
    let n : ℕ = c.loop-place.place in
    let item : Window = c.index.result.now in
    let within : n < length ws = search rules in
    let other : is_other_supplier q (get_or ws n item).query ≡ false = search rules in (
      c.loop-place.invariant.0,
      omega (arith, within),
      before_more (λ (w : Window). is_other_supplier q w.query) ws n item within other c.loop-place.invariant.2,
      λ k d le lt. c.loop-place.invariant.3 k d (omega (arith, le)) lt,
      c.loop-place.invariant.4,
    )

pub returns-then-ne-clause-left : goal.returns-then-ne-clause-left
returns-then-ne-clause-left c =
    let ws : List Window = c.loop-place.windows.items in
    let q : Query = c.args.query.now in
    let item : Window = c.index.result.now in
    let within : c.loop-place.place < length ws = search rules in
    let at : item ≡ get_or ws c.loop-place.place item = search rules in
    let other : path_eq (item.query).path q.path ≡ false = search rules in
    left_beside q c.args.windows.now.items ws
    (none_of_path_left query_of q.path (λ (w : Window). is_other_supplier q w.query) ws c.loop-place.place (λ k d lt. supplied_of_path q (get_or ws k d).query c.requires.filtered) (by_paths query_of ws c.loop-place.invariant.0) within c.loop-place.invariant.2
    (λ d. c.loop-place.invariant.3 c.loop-place.place d (omega arith) within)
    (at_read ws (λ (w : Window). path_eq (w.query).path q.path ≡ false) c.loop-place.place item within at other)) c.loop-place.invariant.4

pub returns-clause-left : goal.returns-clause-left
returns-clause-left c =
    let ws : List Window = c.loop-place.windows.items in
    let done : length ws ≤ c.loop-place.place = search rules in
    left_beside c.args.query.now c.args.windows.now.items ws (λ k d lt. c.loop-place.invariant.2 k d (omega (arith, lt, done))) c.loop-place.invariant.4
