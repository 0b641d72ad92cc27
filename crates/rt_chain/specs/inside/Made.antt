-- A chain that is made in order, so far.
use Rattle.std.specs.Prelude.{◌≡◌, ℕ, Option, None, List, length, min}
use Rattle.std.specs.Map.{values_of}
use Rattle.std.specs.declared.cmp.Ordering.{Ordering}
use Rattle.slab.specs.Slab.{Slab}
use Rattle.rt_chain.specs.declared.chain.Node.{Node}
use Rattle.rt_chain.specs.Chains.{last_or}
use Rattle.rt_chain.specs.inside.Halves.{IsCut, chain_of}

-- the first places stand in front of the cut, so many at most; the last slot of all is known
pub record IsMade {K X : Type 0} (cmp : K → K → Ordering) (front : ℕ) (places : List (K × ℕ))
    (s : Slab (Node X)) (tail last first : Option ℕ) : Type 0 where
  pub cut : IsCut cmp places s last first (min (length places) front) (chain_of places s)
  pub tail_is : tail ≡ last_or None (values_of places)
