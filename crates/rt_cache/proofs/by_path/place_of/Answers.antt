use Rattle.std.proofs.Common.{rules, ◌≡◌, ◌<◌, sym, arith, length, get_or, false}
use Rattle.rt_query.specs.QueryEq.{query_eq}
use Rattle.rt_cache.proofs.ByQueries.{none_unless_here, none_behind_all, lesser_other}
use Rattle.rt_cache.proofs.by_path.place_of.Goals as goal

pub returns-then-place-items-clause-known : goal.returns-then-place-items-clause-known
returns-then-place-items-clause-known g c =
    let all : c.first_of-place.result ≡ length c.args.items.now = search rules in
    sym (none_behind_all g.T.HasQuery.query_of c.args.query.now c.args.items.now c.first_of-place.result c.first_of-place.ensures.point all)

pub returns-then-eq-clause-first : goal.returns-then-eq-clause-first
returns-then-eq-clause-first g c = λ k d lt.
    lesser_other (g.T.HasQuery.query_of (get_or c.args.items.now k d)) c.args.query.now (c.first_of-place.ensures.point.0 k d (omega arith) lt)

pub returns-else-eq-clause-known : goal.returns-else-eq-clause-known
returns-else-eq-clause-known g c =
    let q = g.T.HasQuery.query_of in
    let xs = c.args.items.now in
    let item = c.index-items-place.result in
    let within : c.first_of-place.result < length xs = search rules in
    let other : query_eq (q (get_or xs c.first_of-place.result item)) c.args.query.now ≡ false = search rules in
    sym (none_unless_here q c.args.query.now xs c.first_of-place.result item c.requires c.first_of-place.ensures.point within other)
