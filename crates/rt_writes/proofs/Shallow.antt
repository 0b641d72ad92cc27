-- No leaf of an overlaid tree is too deep.
use Rattle.std.proofs.Common.{◌≡◌, sym, subst, Result, Ok, Err, IfOk}
pub use Rattle.rt_writes.specs.laws.ShallowLaws.{shallow-part}

-- what the one value of a result is
pub if_ok : {X E : Type 0} (P : X → Type 0) (x : X) (r : Result X E) → IfOk r (λ y. y ≡ x) → P x → IfOk r P
if_ok P x (Ok y) e h = subst P (sym e) h
if_ok P x (Err e) _ h = tt
