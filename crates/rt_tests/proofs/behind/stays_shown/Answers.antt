use Rattle.std.proofs.Common.{rules, subst}
use Rattle.std.specs.Option.{IfSome}
use Rattle.std.specs.Sync.Mutex.{mutex_guard_value}
use Rattle.rt_client.specs.Shared.{IsWhole}
use Rattle.rt_client.specs.Calls.{Keeps}
use Rattle.rt_tests.proofs.behind.stays_shown.Goals as goal

pub returns : goal.returns
returns g c h w s held core changes =
    let kept : Keeps (mutex_guard_value c.lock-shared.result) = search rules in
    let whole : IsWhole h = subst (λ o. IfSome o IsWhole) held kept in
    c.cover_law.ensures.views w s (whole.steady w core) changes
