-- Listeners of one number are one.
use Rattle.std.proofs.Common.{◌≡◌, ◌==◌, List, sym, ap, ◌∙◌, Option, Some, None}
use Rattle.std.specs.List.{find, Contains}
use Rattle.rt_world.specs.World.{Listener}
use Rattle.rt_world.specs.Sound.{Rises}
use Rattle.rt_world.proofs.Listeners.{find-number}

some_same : {X : Type 0} (d x y : X) → Some x ≡ Some y → x ≡ y
some_same d x y e = ap (λ o. or_else d o) e
  where
    or_else : {X : Type 0} → X → Option X → X
    or_else d None = d
    or_else d (Some x) = x

-- two listeners of one number are one
pub one_number : (ls : List Listener) (l m : Listener) → Rises ls → Contains ls l → Contains ls m → m.number ≡ l.number → m ≡ l
one_number ls l m r ml mm e =
    some_same l m l (sym (find-number ls m r mm) ∙ ap (λ n. find (λ (x : Listener). x.number == n) ls) e ∙ find-number ls l r ml)
