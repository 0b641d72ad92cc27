use Rattle.std.proofs.Common.{rules, ◌≡◌, ◌<◌, ℕ, List, sym, refl, length, get_or, true, false}
use Rattle.rt_query.specs.QueryEq.{query_eq}
use Rattle.rt_query.specs.laws.QueryEq.{query_eq_tells}
use Rattle.rt_cache.specs.declared.windows.Window.{Window}
use Rattle.rt_cache.specs.inside.ByPath.{query_of}
use Rattle.rt_cache.proofs.ByQueries.{by_query-set}
use Rattle.rt_cache.proofs.Listing.{listed-set}
use Rattle.rt_cache.proofs.windows.put_window.Goals as goal

pub returns-in-Some-clause-order : goal.returns-in-Some-clause-order
returns-in-Some-clause-order c =
    let old : List Window = c.args.windows.now.items in
    let new : Window = c.args.window in
    let within : c.in-Some.place < length old = search rules in
    let own : query_eq (get_or old c.in-Some.place new).query new.query ≡ true = search rules in
    by_query-set query_of old c.in-Some.place new new within (sym ((query_eq_tells (get_or old c.in-Some.place new).query new.query).0 own)) c.requires.order

pub returns-in-Some-clause-listed : goal.returns-in-Some-clause-listed
returns-in-Some-clause-listed c =
    let old : List Window = c.args.windows.now.items in
    let new : Window = c.args.window in
    let within : c.in-Some.place < length old = search rules in
    let own : query_eq (get_or old c.in-Some.place new).query new.query ≡ true = search rules in
    let first : (k : ℕ) → k < c.in-Some.place → query_eq (get_or old k new).query new.query ≡ false = search rules in
    listed-set new.query old c.in-Some.place new new within first own refl
