-- What the parser says of the answer that it gives.
use Rattle.std.proofs.Common.{◌≡◌, Result, Ok, subst}
use Rattle.httparse.specs.Outcome.{IfComplete, OnPartial}
use Rattle.httparse.specs.declared.Status.{Status}
use Rattle.httparse.specs.declared.Status.TheVariants.{Complete, Partial}

pub complete : {A E : Type 0} (P : A → Type 0) (r : Result (Status A) E) (a : A) → r ≡ Ok (Complete a)
    → IfComplete r P → P a
complete P r a e h = subst (λ x. IfComplete x P) e h

pub partial : {A E : Type 0} (P : Type 0) (r : Result (Status A) E) → r ≡ Ok Partial → OnPartial r P → P
partial P r e h = subst (λ x. OnPartial x P) e h
