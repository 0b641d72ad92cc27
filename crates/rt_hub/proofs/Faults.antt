-- What is no fault.
use Rattle.std.proofs.Common.{◌≡◌, Option, Some, None, Result, Ok, Err, refl}
use Rattle.std.specs.Prelude.{IfSome}

-- what was read had none
pub no_fault : {X E : Type 0} (o : Option E) (r : Result X E) (x : X) → r ≡ Ok x → IfSome o (λ e. r ≡ Err e)
    → o ≡ None
no_fault None r x is h = refl
no_fault (Some e) r x is h = cc
