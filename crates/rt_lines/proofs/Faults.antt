-- Calls that refuse by a fault.
use Rattle.std.proofs.Common.{◌≡◌, ◌⊎◌, inl, inr, Option, Some, None, Result, Ok, Err, IfSome, ℕ, List, refl, ap, ◌∙◌}
use Rattle.rt_tree.specs.declared.error.TreeError.{TreeError}
use Rattle.rt_query.specs.declared.error.QueryError.{QueryError}
use Rattle.rt_query.specs.declared.error.QueryError.TheVariants as query
use Rattle.rt_query.specs.Drafts.{Draft}
use Rattle.rt_lines.specs.declared.error.LineError.{LineError}
use Rattle.rt_lines.specs.declared.error.LineError.TheVariants.{NoMemory, Refused}
use Rattle.rt_lines.specs.declared.error.Refusal.TheVariants.{Query}
use Rattle.rt_lines.specs.Reading.{unless, and_then, mark_in}
use Rattle.rt_lines.specs.Drafts.{allowed, bound_of, called}
use Rattle.rt_lines.specs.Calls as call
use Rattle.rt_lines.specs.declared.call.BoundCall.{BoundCall}
use Rattle.rt_query.specs.Calls.{bound_refusal, bounded_by}
use Rattle.rt_order.specs.declared.cut.Mark.{Mark}
use Rattle.serde_json.specs.Data.{Data}
use Rattle.rt_lines.specs.Refusals.{of_query}

-- what would be refused is not answered
pub unless_ok : {A : Type 0} (o : Option TreeError) (x y : A) → IfSome o (λ e. Ok x ≡ Err e) → x ≡ y → unless o y ≡ Ok x
unless_ok None x y h is = cc
unless_ok (Some e) x y h is = cc

of_query-cases : (e : QueryError) → (of_query e ≡ Refused (Query e)) ⊎ (of_query e ≡ NoMemory)
of_query-cases query.OrderTwice = inl refl
of_query-cases query.StartTwice = inl refl
of_query-cases query.EndTwice = inl refl
of_query-cases query.LimitTwice = inl refl
of_query-cases query.LimitZero = inl refl
of_query-cases query.NeedsText = inl refl
of_query-cases query.KeyNotAllowed = inl refl
of_query-cases query.NoOrder = inl refl
of_query-cases query.BadBoundKey = inl refl
of_query-cases query.NoMemory = inr refl

-- a draft's refusal
pub query_fault : (o : Option QueryError) (d : Draft) (e : QueryError) → o ≡ Some e → (allowed o d ≡ Err (of_query e)) ⊎ (of_query e ≡ NoMemory)
query_fault None d e h = cc
query_fault (Some x) d e h = fault (of_query-cases e)
  where
    fault : (of_query e ≡ Refused (Query e)) ⊎ (of_query e ≡ NoMemory) → (allowed (Some x) d ≡ Err (of_query e)) ⊎ (of_query e ≡ NoMemory)
    fault (inl is) = inl cc
    fault (inr is) = inr is

-- a call that a draft allows
pub allowed_ok : {A : Type 0} (o : Option QueryError) (x : A) (d new : Draft) → IfSome o (λ e. Ok x ≡ Err e) → new ≡ d → allowed o d ≡ Ok new
allowed_ok None x d new h is = cc
allowed_ok (Some e) x d new h is = cc

pub bound_called : {A : Type 0} (b : BoundCall) (d : Data) (k : Option (List ℕ)) (draft new : Draft) (mark : Mark) (x : A) → mark_in d ≡ Ok mark
    → IfSome (bound_refusal (bound_of b) mark k draft) (λ e. Ok x ≡ Err e) → new ≡ bounded_by (bound_of b) mark k draft → called (call.Bound b d k) draft ≡ Ok new
bound_called b d k draft new mark x is h made =
    ap (λ (m : Result Mark LineError). and_then m (λ v. allowed (bound_refusal (bound_of b) v k draft) (bounded_by (bound_of b) v k draft))) is
    ∙ allowed_ok (bound_refusal (bound_of b) mark k draft) x (bounded_by (bound_of b) mark k draft) new h made
