use Rattle.std.proofs.Common.{rules, ◌≡◌, ◌∙◌, ◌||◌, ap, not, is_some, true, false, List}
use Rattle.std.specs.List.{filter}
use Rattle.std.specs.FinMap as map_of
use Rattle.rt_tree.specs.PathTree.{children_alone}
use Rattle.rt_query.specs.Queries.{Query}
use Rattle.rt_query.specs.Supply.{does_supply}
use Rattle.rt_query.specs.QueryEq.{query_eq}
use Rattle.rt_query.specs.QueryOrder.{query_cmp}
use Rattle.rt_cache.specs.Brought.{Window}
use Rattle.rt_cache.specs.Recover.{in_query_order}
use Rattle.rt_cache.specs.inside.Held.{entries_of}
use Rattle.rt_cache.proofs.Listing.{find-listed}
use Rattle.rt_cache.proofs.Pushes.{on_ok}
use Rattle.rt_cache.proofs.WindowPushes.{put_beside}
use Rattle.rt_cache.proofs.windows.put_whole.Goals as goal

-- the query had its window, so it supplies no other one
pub returns-then-is_some-clause-ok : goal.returns-then-is_some-clause-ok
returns-then-is_some-clause-ok c =
    let q : Query = c.args.query.now in
    let ws : List (Query × Window) = in_query_order (entries_of c.args.windows.now.items) in
    let vs : List (Query × Window) = in_query_order (entries_of c.replace.new.windows.items) in
    let w : Window = record { children = children_alone c.args.tree.now; is_whole = false } in
    let had : is_some (map_of.find query_cmp q (entries_of c.args.windows.now.items)) ≡ true = search rules in
    on_ok c.replace.result (vs ≡ map_of.put query_cmp q w ws)
    (vs ≡ filter (λ (x : Query × Window). query_eq x.0 q || not (does_supply q x.0)) (map_of.put query_cmp q w ws))
    c.replace.ensures.ok
    (λ put. put ∙ put_beside q w ws c.requires.apart (ap is_some (find-listed q (entries_of c.args.windows.now.items)) ∙ had))

pub returns-clause-ok : goal.returns-clause-ok
returns-clause-ok c =
    c.remove_supplied.ensures.left
    ∙ ap (filter (λ w. query_eq w.0 c.args.query.now || not (does_supply c.args.query.now w.0))) c.in_ok-replace.ensures.ok
