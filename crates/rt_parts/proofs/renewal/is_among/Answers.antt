use Rattle.std.proofs.Common.{◌≡◌, ◌<◌, List, length, get_or, rules, sym, ◌∙◌}
use Rattle.rt_query.specs.Queries.{Query}
use Rattle.rt_query.specs.QueryEq.{query_eq}
use Rattle.rt_parts.proofs.OrderLaws.{at_end, at_first}
use Rattle.rt_parts.proofs.renewal.is_among.Goals as goal

pub returns-then-place-queries : goal.returns-then-place-queries
returns-then-place-queries c =
    let qs : List Query = c.args.queries.now in
    let all : c.first_from-place.result ≡ length qs = search rules in
    sym (at_end c.args.query.now qs c.requires c.first_from-place.result c.first_from-place.ensures.point all)

pub returns : goal.returns
returns c =
    let qs : List Query = c.args.queries.now in
    let q : Query = c.index-queries-place.result in
    let within : c.first_from-place.result < length qs = search rules in
    let here : c.eq.result ≡ query_eq (get_or qs c.first_from-place.result q) c.args.query.now = search rules in
    here ∙ sym (at_first c.args.query.now qs c.requires c.first_from-place.result c.first_from-place.ensures.point q within)
