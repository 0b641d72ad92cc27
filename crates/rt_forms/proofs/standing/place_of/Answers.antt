use Rattle.std.proofs.Common.{rules, ◌≡◌, ◌<◌, ℕ, List, length, get_or, true, false, sym}
use Rattle.rt_query.specs.Queries.{Query}
use Rattle.rt_query.specs.QueryEq.{query_eq}
use Rattle.rt_forms.proofs.OrderLaws.{at_end, at_it, at_gap}
use Rattle.rt_forms.proofs.standing.place_of.Goals as goal

pub returns-then-place-filtered-clause-place : goal.returns-then-place-filtered-clause-place
returns-then-place-filtered-clause-place c =
    let es : List (Query × List ℕ) = c.args.filtered.now in
    let all : c.first_from-place.result ≡ length es = search rules in
    sym (at_end c.args.query.now es c.requires c.first_from-place.result c.first_from-place.ensures.point all)

pub returns-then-eq-clause-place : goal.returns-then-eq-clause-place
returns-then-eq-clause-place c =
    let es : List (Query × List ℕ) = c.args.filtered.now in
    let e : Query × List ℕ = c.index-filtered-place.result in
    let within : c.first_from-place.result < length es = search rules in
    let here : query_eq (get_or es c.first_from-place.result e).0 c.args.query.now ≡ true = search rules in
    sym (at_it c.args.query.now es c.requires c.first_from-place.result c.first_from-place.ensures.point e within here)

pub returns-else-eq-clause-place : goal.returns-else-eq-clause-place
returns-else-eq-clause-place c =
    let es : List (Query × List ℕ) = c.args.filtered.now in
    let e : Query × List ℕ = c.index-filtered-place.result in
    let within : c.first_from-place.result < length es = search rules in
    let other : query_eq (get_or es c.first_from-place.result e).0 c.args.query.now ≡ false = search rules in
    sym (at_gap c.args.query.now es c.requires c.first_from-place.result c.first_from-place.ensures.point e within other)
