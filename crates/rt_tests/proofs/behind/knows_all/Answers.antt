use Rattle.std.proofs.Common.{rules, subst}
use Rattle.std.specs.Option.{IfSome}
use Rattle.std.specs.Sync.Mutex.{mutex_guard_value}
use Rattle.rt_client.specs.Shared.{IsWhole}
use Rattle.rt_client.specs.Calls.{Keeps}
use Rattle.rt_tests.proofs.behind.knows_all.Goals as goal

pub returns : goal.returns
returns g c seat w h lane known held core is_open quiet mirror =
    let kept : Keeps (mutex_guard_value c.lock-shared.result) = search rules in
    let whole : IsWhole h = subst (λ o. IfSome o IsWhole) held kept in
    c.following_law.ensures.all (mutex_guard_value c.lock-shared.result) seat w h lane known whole.kept core is_open quiet mirror
