use Rattle.std.proofs.Common.{rules, ◌≡◌, ℕ, ◌+◌, ◌-◌, arith, get_or, false}
use Rattle.rt_cache.specs.inside.ByPath.{is_other_supplier}
use Rattle.rt_cache.proofs.Apart.{only_at}
use Rattle.rt_cache.proofs.by_path.is_only_supplier.Goals as goal

pub returns-then-last-eq0 : goal.returns-then-last-eq0
returns-then-last-eq0 g c = λ e k d lt.
    let first : c.args.last ≡ 0 = search rules in
    absurd (omega (arith, lt, first))

pub returns : goal.returns
returns g c = λ e k d lt.
    let q = g.T.HasQuery.query_of in
    let xs = c.args.items.now in
    let item = c.index-items-place.result in
    let place : ℕ = c.args.last - 1 in
    let next : place + 1 ≡ c.args.last = omega (arith, lt) in
    let no : is_other_supplier (q (get_or xs place item)) c.args.query.now ≡ false = search rules in
    only_at q c.args.query.now xs c.requires.order c.requires.filtered c.requires.apart c.args.last d c.requires.within (c.requires.own d) place item next no k d lt
