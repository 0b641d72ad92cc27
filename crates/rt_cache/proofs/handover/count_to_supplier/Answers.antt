use Rattle.std.proofs.Common.{rules, ◌≡◌, ◌<◌, List, arith, length, get_or, true}
use Rattle.rt_cache.specs.declared.windows.Window.{Window}
use Rattle.rt_cache.specs.inside.ByPath.{query_of, is_other_supplier}
use Rattle.rt_cache.proofs.Apart.{up_to_supplier}
use Rattle.rt_cache.proofs.handover.count_to_supplier.Goals as goal

pub returns-in-Some-clause-up_to : goal.returns-in-Some-clause-up_to
returns-in-Some-clause-up_to c = λ k d lt.
    let ws : List Window = c.args.windows.now in
    let within : c.in-Some.last < length ws = search rules in
    let own : is_other_supplier (get_or ws c.in-Some.last d).query c.args.query.now ≡ true = search rules in
    up_to_supplier query_of c.args.query.now ws c.requires.order c.requires.filtered c.requires.apart c.in-Some.last d within own k d (omega (arith, lt))
