use Rattle.std.proofs.Common.{◌∙◌, ap, sym, not, IfOk}
use Rattle.std.specs.declared.result.Result.{Result}
use Rattle.std.specs.declared.result.Result.TheVariants.{Ok, Err}
use Rattle.rt_cache.proofs.recovery.spans_lost.Goals as goal

if_ok_both : {A E : Type 0} (r : Result A E) (P Q R : A → Type 0) → IfOk r P → IfOk r Q → ((x : A) → P x → Q x → R x) → IfOk r R
if_ok_both (Ok x) P Q R p q f = f x p q
if_ok_both (Err e) P Q R p q f = tt

pub returns-clause-lost : goal.returns-clause-lost
returns-clause-lost c =
    if_ok_both c.places_beside.result _ _ _ c.places_beside.ensures.order c.places_beside.ensures.places (λ gaps order places. (
      order,
      λ k d lt. sym (places k lt ∙ ap not (c.in_ok-spans.ensures.places k d lt)),
    ))
