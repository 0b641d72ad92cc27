-- Where a call is refused, and where not.
use Rattle.std.specs.Prelude.{◌≡◌, Option, Some, None, IfSome}
use Rattle.std.specs.declared.result.Result.TheVariants.{Ok, Err}

-- a step that isn't refused leaves the call so
pub none_refused : {A B E : Type 0} (a : A) (b : B) (o : Option E) → IfSome o (λ e. Ok a ≡ Err e) → IfSome o (λ e. Ok b ≡ Err e)
none_refused a b None h = tt
none_refused a b (Some e) h = cc
