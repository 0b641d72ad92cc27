use Rattle.std.proofs.Common.{sym, ap, subst, length}
use Rattle.std.specs.List.Sorted.{IsStrictlySortedBy}
use Rattle.std.specs.Map.{keys_of}
use Rattle.rt_map.proofs.map.OrdMap.new.Goals as goal

pub invariant_of-result : goal.invariant_of-result
unfolding IsStrictlySortedBy
invariant_of-result g c = (sym (ap length c.in_ok-root.ensures), subst (λ es. IsStrictlySortedBy g.K.Ord.cmp (keys_of es)) (sym c.in_ok-root.ensures) tt)

pub returns-clause-ordered : goal.returns-clause-ordered
unfolding IsStrictlySortedBy
returns-clause-ordered g c = subst (λ es. IsStrictlySortedBy g.K.Ord.cmp (keys_of es)) (sym c.in_ok-root.ensures) tt
