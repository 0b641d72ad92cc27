-- The parts of a push that is not refused.
use Rattle.std.proofs.Common.{◌≡◌, false, ◌⊎◌, inl, inr, List, [], ◌∷◌, None, sym, ap, subst, ◌∙◌, arith}
use Rattle.std.specs.List.{list_any, All}
use Rattle.std.proofs.lemmas.List.Elements.{All-cons}
use Rattle.rt_world.specs.declared.step.Step.{Step}
use Rattle.rt_world.specs.World.{World}
use Rattle.rt_world.specs.After.{kind}
use Rattle.rt_world.specs.Refusals.{refusal}
use Rattle.rt_world.specs.steps.Kind.{Kind, Part, stands_too_deep}
use Rattle.rt_world.specs.steps.Pushing.{is_bad_part, is_no_push, push_of}
use Rattle.rt_world.specs.laws.Made.{IsPartOn, PushMayPush}
use Rattle.rt_world.proofs.KindLaws.{orderly}
use Rattle.rt_world.proofs.LimitLaws.{allowed}
use Rattle.rt_world.proofs.Listeners.{or_false_left, or_false_right}
use Rattle.rt_world.proofs.Reaching.{pushes_on}

parts_on : (w : World) (parts : List Part) → list_any (is_bad_part w) parts ≡ false
    → list_any (λ (p : Part). list_any stands_too_deep p.1) parts ≡ false → All (IsPartOn w) parts
parts_on w [] good deep = λ k d lt. absurd (omega arith)
parts_on w (p ∷ parts) good deep =
    All-cons (IsPartOn w) p parts (λ q e.
    pushes_on w p.0 p.1 q e (or_false_left (is_bad_part w p) (list_any (is_bad_part w) parts) good)
    (or_false_left (list_any stands_too_deep p.1) (list_any (λ (r : Part). list_any stands_too_deep r.1) parts) deep))
    (parts_on w parts (or_false_right (is_bad_part w p) (list_any (is_bad_part w) parts) good)
    (or_false_right (list_any stands_too_deep p.1) (list_any (λ (r : Part). list_any stands_too_deep r.1) parts) deep))

pub push_may_push : PushMayPush
push_may_push w s parts is free =
    let a = allowed w s free in
    parts_on w parts
    (or_false_right (is_no_push parts) (list_any (is_bad_part w) parts)
    (ap (λ (k : Kind). k.is_bad_push w) (sym is) ∙ a.push))
    (ap (λ (k : Kind). k.is_too_deep) (sym is) ∙ a.deep)

-- so are those of each step
pub parts_may_push : (w : World) (s : Step) → refusal w s ≡ None → All (IsPartOn w) (kind s).parts
parts_may_push w s free = at (orderly s).parts
  where
    at : (kind s).parts ≡ [] ⊎ kind s ≡ push_of (kind s).parts → All (IsPartOn w) (kind s).parts
    at (inl e) = subst (All (IsPartOn w)) (sym e) (λ k d lt. absurd (omega arith))
    at (inr e) = push_may_push w s (kind s).parts e free
