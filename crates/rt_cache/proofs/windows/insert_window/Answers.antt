use Rattle.std.proofs.Common.{rules, ◌≡◌, ◌∙◌, ◌≤◌, ℕ, List, ap, sym, subst, arith, length, true, false}
use Rattle.std.specs.List.{insert}
use Rattle.std.specs.List.Sorted.{IsPartitionPoint}
use Rattle.std.specs.Ordering.{is_lt}
use Rattle.rt_query.specs.Queries.{Query}
use Rattle.rt_query.specs.QueryOrder.{query_cmp}
use Rattle.rt_cache.specs.Recover.{in_query_order}
use Rattle.rt_cache.specs.declared.windows.Window.{Window}
use Rattle.rt_cache.specs.inside.ByPath.{AreByQuery, query_of}
use Rattle.rt_cache.specs.inside.Held.{entries_of}
use Rattle.rt_cache.proofs.ByQueries.{lesser_other, by_query-insert}
use Rattle.rt_cache.proofs.Listing.{listed-insert}
use Rattle.rt_cache.proofs.windows.insert_window.Goals as goal

-- so many stand before the query
abbrev StandsAt : List Window → Query → ℕ → Type 0
StandsAt ws q n = IsPartitionPoint (λ (w : Window). is_lt (query_cmp w.query q) ≡ true) (λ (w : Window). is_lt (query_cmp w.query q) ≡ false) ws n

pub returns-clause-order : goal.returns-clause-order
returns-clause-order c =
    let old : List Window = c.args.windows.now.items in
    let place : ℕ = c.first_of-place.result in
    let items : c.insert-in_reserved_room.new.self.items ≡ insert old place c.args.window = search rules in
    let point : StandsAt old c.args.window.query place =
    subst (λ (q : Query). StandsAt old q place) c.query.ensures (subst (λ (ws : List Window). StandsAt ws c.query.result.now place) c.deref.ensures.value c.first_of-place.ensures.point) in
    subst (λ (ws : List Window). AreByQuery query_of ws) (sym items) (by_query-insert query_of old place c.args.window c.requires.order point)

pub returns-clause-listed : goal.returns-clause-listed
returns-clause-listed c =
    let old : List Window = c.args.windows.now.items in
    let place : ℕ = c.first_of-place.result in
    let items : c.insert-in_reserved_room.new.self.items ≡ insert old place c.args.window = search rules in
    let point : StandsAt old c.args.window.query place =
    subst (λ (q : Query). StandsAt old q place) c.query.ensures (subst (λ (ws : List Window). StandsAt ws c.query.result.now place) c.deref.ensures.value c.first_of-place.ensures.point) in
    let within : place ≤ length old = subst (λ (ws : List Window). place ≤ length ws) c.deref.ensures.value c.first_of-place.ensures.within in
    ap (λ ws. in_query_order (entries_of ws)) items
    ∙ listed-insert old place c.args.window within (λ k d lt. lesser_other _ c.args.window.query (point.0 k d (omega arith) lt))
