use Rattle.std.proofs.Common.{rules, subst}
use Rattle.std.specs.Option.{IfSome}
use Rattle.std.specs.Sync.Mutex.{mutex_guard_value}
use Rattle.rt_client.specs.Shared.{IsWhole}
use Rattle.rt_client.specs.Calls.{Keeps}
use Rattle.rt_tests.proofs.behind.sends_all.Goals as goal

pub returns : goal.returns
returns g c h w held core free =
    let kept : Keeps (mutex_guard_value c.lock-shared.result) = search rules in
    let whole : IsWhole h = subst (λ o. IfSome o IsWhole) held kept in
    c.message_law.ensures.connected w (whole.steady w core).sound free
