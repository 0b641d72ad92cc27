use Rattle.std.proofs.Common.{rules, ◌≡◌, None, is_some, true, false, not, ◌∙◌}
use Rattle.std.specs.Ordering.{is_lt, is_gt}
use Rattle.rt_query.specs.QueryOrder.{query_cmp, unlimited}
use Rattle.rt_cover.proofs.WidestLaws.{front_limited, front_unlimited, no_limit}
use Rattle.rt_cover.proofs.supply.is_in_front.Goals as goal

pub returns-then-is_some : goal.returns-then-is_some
returns-then-is_some c =
    let q = c.args.query.now in
    let limited : is_some q.limit ≡ true = search rules in
    let told : not c.is_gt.result ≡ not (is_gt (query_cmp c.args.entry.now.0 (unlimited q))) = search rules in
    told ∙ front_limited q c.args.entry.now limited

pub returns-else-is_some : goal.returns-else-is_some
returns-else-is_some c =
    let q = c.args.query.now in
    let none : is_some q.limit ≡ false = search rules in
    let told : c.is_lt.result ≡ is_lt (query_cmp c.args.entry.now.0 q) = search rules in
    told ∙ front_unlimited q c.args.entry.now (no_limit q none)
