use Rattle.std.proofs.Common.{◌≡◌, ℕ, true, [], subst}
use Rattle.std.specs.Prelude.{IsTrue}
use Rattle.rt_writes.specs.inside.Spots.{has_here}
use Rattle.rt_writes.proofs.SpotLaws.{some_last, here_in}
use Rattle.rt_writes.proofs.spots.Spot.is_child_set.Goals as goal

pub returns-in-Some : goal.returns-in-Some
returns-in-Some c =
    subst (λ o. (IsTrue c.is_some.result → (x : ℕ) × (here_in o [] x ≡ true)) × (((x : ℕ) × (here_in o [] x ≡ true)) → IsTrue c.is_some.result))
    c.in-Some.ensures.value
    (some_last (λ j. has_here c.in-Some.child.now [] j) c.last_here.result c.is_some.result c.is_some.ensures c.last_here.ensures)
