use Rattle.std.proofs.Common.{rules, ◌≡◌, ◌∙◌, ◌<◌, ℕ, ap, length, get_or, true, false}
use Rattle.std.specs.FinMap as map_of
use Rattle.rt_tree.specs.PathTree.{children_alone}
use Rattle.rt_query.specs.QueryEq.{query_eq}
use Rattle.rt_query.specs.laws.QueryEq.{query_eq_tells}
use Rattle.rt_query.specs.QueryOrder.{query_cmp}
use Rattle.rt_cache.specs.Recover.{in_query_order}
use Rattle.rt_cache.specs.declared.windows.Window.{Window}
use Rattle.rt_cache.specs.inside.ByPath.{query_of}
use Rattle.rt_cache.specs.inside.Held.{seen_window, entries_of}
use Rattle.rt_cache.proofs.ByQueries.{by_query-set}
use Rattle.rt_cache.proofs.Listing.{listed-set}
use Rattle.rt_cache.proofs.windows.replace.Goals as goal

pub returns-in_ok-children-in-Some-clause-ok : goal.returns-in_ok-children-in-Some-clause-ok
returns-in_ok-children-in-Some-clause-ok c =
    let old : Window = c.index_mut-window.result.now in
    let new : Window = c.refill.new.self in
    let refilled : new ≡ record { query = old.query; children = c.in_ok-children-in-Some.children; is_whole = false } = c.refill.ensures in
    let within : c.in-Some.place < length c.args.windows.now.items = search rules in
    let own : query_eq (get_or c.args.windows.now.items c.in-Some.place old).query c.args.query.now ≡ true = search rules in
    let first : (k : ℕ) → k < c.in-Some.place → query_eq (get_or c.args.windows.now.items k old).query c.args.query.now ≡ false = search rules in
    let same : query_eq old.query c.args.query.now ≡ true = search rules in
    listed-set c.args.query.now c.args.windows.now.items c.in-Some.place old new within first own (ap query_of refilled ∙ (query_eq_tells old.query c.args.query.now).0 same)
    ∙ ap (λ (w : Window). map_of.put query_cmp c.args.query.now (seen_window w) (in_query_order (entries_of c.args.windows.now.items))) refilled
    ∙ ap (λ t. map_of.put query_cmp c.args.query.now (record { children = t; is_whole = false }) (in_query_order (entries_of c.args.windows.now.items))) c.in_ok-children-in-Some.ensures

pub returns-in_ok-children-in-Some-clause-order : goal.returns-in_ok-children-in-Some-clause-order
returns-in_ok-children-in-Some-clause-order c =
    let old : Window = c.index_mut-window.result.now in
    let within : c.in-Some.place < length c.args.windows.now.items = search rules in
    let at : old ≡ get_or c.args.windows.now.items c.in-Some.place old = search rules in
    by_query-set query_of c.args.windows.now.items c.in-Some.place old c.refill.new.self within (ap query_of c.refill.ensures ∙ ap query_of at) c.requires

pub returns-in_ok-reserve-in-None-clause-ok : goal.returns-in_ok-reserve-in-None-clause-ok
returns-in_ok-reserve-in-None-clause-ok c =
    let is : c.in_ok-window-in-None.window ≡ record { query = c.args.query.now; children = children_alone c.args.tree.now; is_whole = false } = c.in_ok-window-in-None.ensures in
    c.insert_window.ensures.listed
    ∙ (λ i. map_of.put query_cmp (is i).query (seen_window (is i)) (in_query_order (entries_of (c.reserve.ensures.items i))))
