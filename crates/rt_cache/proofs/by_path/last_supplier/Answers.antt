use Rattle.std.proofs.Common.{rules, ◌≡◌, ℕ, ◌+◌, ◌-◌, ◌<◌, arith, length, get_or, false}
use Rattle.rt_cache.specs.inside.ByPath.{is_other_supplier}
use Rattle.rt_cache.proofs.Apart.{none_from_behind, none_unless_last}
use Rattle.rt_cache.proofs.by_path.last_supplier.Goals as goal

pub returns-then-count-eq0-clause-none : goal.returns-then-count-eq0-clause-none
returns-then-count-eq0-clause-none g c = λ k d lt.
    let q = g.T.HasQuery.query_of in
    let nothing : c.count_up_to-count.result ≡ 0 = search rules in
    none_from_behind q c.args.query.now c.args.items.now c.requires.order c.requires.filtered c.requires.apart k d lt (c.count_up_to-count.ensures.point.1 k d (omega (arith, nothing)) lt)

pub returns-then-is_other_supplier-clause-last : goal.returns-then-is_other_supplier-clause-last
returns-then-is_other_supplier-clause-last g c = λ k d le lt.
    let q = g.T.HasQuery.query_of in
    none_from_behind q c.args.query.now c.args.items.now c.requires.order c.requires.filtered c.requires.apart k d lt (c.count_up_to-count.ensures.point.1 k d (omega (arith, le)) lt)

pub returns-else-is_other_supplier-clause-none : goal.returns-else-is_other_supplier-clause-none
returns-else-is_other_supplier-clause-none g c = λ k d lt.
    let q = g.T.HasQuery.query_of in
    let xs = c.args.items.now in
    let item = c.index-items-place.result in
    let place : ℕ = c.count_up_to-count.result - 1 in
    let next : place + 1 ≡ c.count_up_to-count.result = omega arith in
    let within : place < length xs = search rules in
    let no : is_other_supplier (q (get_or xs place item)) c.args.query.now ≡ false = search rules in
    none_unless_last q c.args.query.now xs c.requires.order c.requires.filtered c.requires.apart c.count_up_to-count.result place item next c.count_up_to-count.ensures.within c.count_up_to-count.ensures.point no k d lt
