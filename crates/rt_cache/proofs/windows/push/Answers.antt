use Rattle.std.proofs.Common.{rules, ◌≡◌, ◌∙◌, ◌<◌, ℕ, ap, sym, length, get_or, true, false, Some, None}
use mathlib.Core.Bool.{true≢false}
use Rattle.std.specs.Option.{option_map_or}
use Rattle.std.specs.FinMap as map_of
use Rattle.rt_tree.specs.PathTree.{path_eq, strip, put}
use Rattle.rt_tree.specs.Assignments.{is_at_or_above}
use Rattle.rt_query.specs.QueryEq.{query_eq}
use Rattle.rt_query.specs.laws.QueryEq.{query_eq_tells}
use Rattle.rt_query.specs.Queries.{Query}
use Rattle.rt_query.specs.QueryOrder.{query_cmp}
use Rattle.rt_cache.specs.Recover.{in_query_order}
use Rattle.rt_cache.specs.declared.windows.Window.{Window}
use Rattle.rt_cache.specs.inside.ByPath.{query_of}
use Rattle.rt_cache.specs.inside.Held.{seen_window, entry_of, entries_of}
use Rattle.rt_cache.proofs.ByQueries.{by_query-set}
use Rattle.rt_cache.proofs.Listing.{listed-set}
use Rattle.rt_cache.proofs.WindowPushes.{on_err_of, pushed_own, taken_own, pushed_none, taken_none, pushed_some, taken_some, none_listed, window_listed, entries_of-set}
use Rattle.rt_cache.proofs.windows.push.Goals as goal

pub returns-then-eq-clause-ok : goal.returns-then-eq-clause-ok
returns-then-eq-clause-ok c =
    let own : path_eq c.args.path.now (c.args.query.now).path ≡ true = search rules in
    c.in_ok-put_whole.ensures.ok
    ∙ sym (pushed_own c.args.query.now c.args.path.now c.args.tree.now (in_query_order (entries_of c.args.windows.now.items)) own)

pub returns-then-eq-clause-taken : goal.returns-then-eq-clause-taken
returns-then-eq-clause-taken c =
    let own : path_eq c.args.path.now (c.args.query.now).path ≡ true = search rules in
    taken_own c.args.query.now c.args.path.now (in_query_order (entries_of c.args.windows.now.items)) own

pub put_into_window-requires-clause-under : goal.put_into_window-requires-clause-under
put_into_window-requires-clause-under c =
    let old : Window = c.index_mut.result.now in
    let within : c.in-Some.place < length c.args.windows.now.items = search rules in
    let at : old ≡ get_or c.args.windows.now.items c.in-Some.place old = search rules in
    let own : query_eq (get_or c.args.windows.now.items c.in-Some.place old).query c.args.query.now ≡ true = search rules in
    let was : old.query ≡ c.args.query.now = (query_eq_tells old.query c.args.query.now).0 (ap (λ (w : Window). query_eq w.query c.args.query.now) at ∙ own) in
    ap (λ (q : Query). is_at_or_above q.path c.args.path.now) was ∙ c.requires.under

pub returns-in_default-clause-ok : goal.returns-in_default-clause-ok
returns-in_default-clause-ok c =
    let other : path_eq c.args.path.now (c.args.query.now).path ≡ false = search rules in
    let none : map_of.find query_cmp c.args.query.now (entries_of c.args.windows.now.items) ≡ None = search rules in
    pushed_none c.args.query.now c.args.path.now c.args.tree.now (in_query_order (entries_of c.args.windows.now.items)) other (none_listed c.args.query.now c.args.windows.now.items none)

pub returns-in_default-clause-taken : goal.returns-in_default-clause-taken
returns-in_default-clause-taken c =
    let other : path_eq c.args.path.now (c.args.query.now).path ≡ false = search rules in
    let none : map_of.find query_cmp c.args.query.now (entries_of c.args.windows.now.items) ≡ None = search rules in
    taken_none c.args.query.now c.args.path.now (in_query_order (entries_of c.args.windows.now.items)) other (none_listed c.args.query.now c.args.windows.now.items none)

pub returns-in_err-put_into_window-clause-err : goal.returns-in_err-put_into_window-clause-err
returns-in_err-put_into_window-clause-err c =
    let old : Window = c.index_mut.result.now in
    let within : c.in-Some.place < length c.args.windows.now.items = search rules in
    let at : old ≡ get_or c.args.windows.now.items c.in-Some.place old = search rules in
    let tree : c.put_into_window.new.window.children ≡ old.children = search rules in
    let same : entry_of c.put_into_window.new.window ≡ entry_of old =
    λ i. (c.put_into_window.ensures.query i, record { children = tree i; is_whole = c.put_into_window.ensures.mark i }) in
    on_err_of _ _ (ap in_query_order (entries_of-set c.args.windows.now.items c.in-Some.place old c.put_into_window.new.window within (same ∙ ap entry_of at)))

pub returns-clause-order : goal.returns-clause-order
returns-clause-order c =
    let old : Window = c.index_mut.result.now in
    let within : c.in-Some.place < length c.args.windows.now.items = search rules in
    let at : old ≡ get_or c.args.windows.now.items c.in-Some.place old = search rules in
    by_query-set query_of c.args.windows.now.items c.in-Some.place old c.put_into_window.new.window within (c.put_into_window.ensures.query ∙ ap query_of at) c.requires.order

pub returns-clause-ok : goal.returns-clause-ok
returns-clause-ok c =
    let old : Window = c.index_mut.result.now in
    let new : Window = c.put_into_window.new.window in
    let q : Query = c.args.query.now in
    let within : c.in-Some.place < length c.args.windows.now.items = search rules in
    let at : old ≡ get_or c.args.windows.now.items c.in-Some.place old = search rules in
    let own : query_eq (get_or c.args.windows.now.items c.in-Some.place old).query c.args.query.now ≡ true = search rules in
    let first : (k : ℕ) → k < c.in-Some.place → query_eq (get_or c.args.windows.now.items k old).query c.args.query.now ≡ false = search rules in
    let other : path_eq c.args.path.now (c.args.query.now).path ≡ false = search rules in
    let was : old.query ≡ q = (query_eq_tells old.query q).0 (ap (λ (w : Window). query_eq w.query q) at ∙ own) in
    let tree : new.children ≡ option_map_or (λ rest. put old.children rest c.args.tree.now) (strip (old.query).path c.args.path.now) old.children = c.in_ok-put_into_window.ensures.ok in
    let found = window_listed q c.args.windows.now.items c.in-Some.place old within first own in
    listed-set q c.args.windows.now.items c.in-Some.place old new within first own (c.put_into_window.ensures.query ∙ was)
    ∙ (λ i. map_of.put query_cmp q (record {
      children = (tree ∙ ap (λ (r : Query). option_map_or (λ rest. put old.children rest c.args.tree.now) (strip r.path c.args.path.now) old.children) was) i;
      is_whole = c.put_into_window.ensures.mark i;
    }) (in_query_order (entries_of c.args.windows.now.items)))
    ∙ pushed_some q c.args.path.now c.args.tree.now (in_query_order (entries_of c.args.windows.now.items)) (seen_window old) other c.requires.under (found ∙ ap (λ (w : Window). Some (seen_window w)) (sym at))

pub returns-clause-taken : goal.returns-clause-taken
returns-clause-taken c =
    let old : Window = c.index_mut.result.now in
    let within : c.in-Some.place < length c.args.windows.now.items = search rules in
    let own : query_eq (get_or c.args.windows.now.items c.in-Some.place old).query c.args.query.now ≡ true = search rules in
    let first : (k : ℕ) → k < c.in-Some.place → query_eq (get_or c.args.windows.now.items k old).query c.args.query.now ≡ false = search rules in
    taken_some c.args.query.now c.args.path.now (in_query_order (entries_of c.args.windows.now.items)) _ (window_listed c.args.query.now c.args.windows.now.items c.in-Some.place old within first own)

-- a stale push takes no memory: what does is taken
pub returns-in_err-put_whole-clause-stale : goal.returns-in_err-put_whole-clause-stale
returns-in_err-put_whole-clause-stale c e =
    let own : path_eq c.args.path.now (c.args.query.now).path ≡ true = search rules in
    absurd (true≢false (taken_own c.args.query.now c.args.path.now (in_query_order (entries_of c.args.windows.now.items)) own ∙ e))

pub returns-in_err-put_into_window-clause-stale : goal.returns-in_err-put_into_window-clause-stale
returns-in_err-put_into_window-clause-stale c e =
    let old : Window = c.index_mut.result.now in
    let within : c.in-Some.place < length c.args.windows.now.items = search rules in
    let own : query_eq (get_or c.args.windows.now.items c.in-Some.place old).query c.args.query.now ≡ true = search rules in
    let first : (k : ℕ) → k < c.in-Some.place → query_eq (get_or c.args.windows.now.items k old).query c.args.query.now ≡ false = search rules in
    absurd (true≢false (taken_some c.args.query.now c.args.path.now (in_query_order (entries_of c.args.windows.now.items)) _ (window_listed c.args.query.now c.args.windows.now.items c.in-Some.place old within first own) ∙ e))
