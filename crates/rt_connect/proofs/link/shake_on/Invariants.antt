use Rattle.std.proofs.Common.{ℕ, List}
use Rattle.std.specs.Prelude.{IfOk}
use Rattle.tungstenite.specs.Heads.{Connected}
use Rattle.rt_connect.proofs.link.shake_on.Given as goal

abbrev pub invariant-loop : goal.invariant-loop
invariant-loop g l = IfOk l.shaken (λ f. (key : List ℕ) × Connected key f.0)
