use Rattle.std.proofs.Common.{rules, subst}
use Rattle.std.specs.Option.{IfSome}
use Rattle.std.specs.Sync.Mutex.{mutex_guard_value}
use Rattle.rt_client.specs.Shared.{IsWhole}
use Rattle.rt_client.specs.Calls.{Keeps}
use Rattle.rt_tests.proofs.behind.stays_within.Goals as goal

pub returns : goal.returns
returns g c h w steps held core =
    let kept : Keeps (mutex_guard_value c.lock-shared.result) = search rules in
    let whole : IsWhole h = subst (λ o. IfSome o IsWhole) held kept in
    c.limit_law.ensures w steps (whole.steady w core).sound (whole.within w core)
