-- What is so of all pending writes.
use Rattle.std.specs.Prelude.{◌<◌, List}
use Rattle.std.specs.List.{All, AllPairs}
use Rattle.rt_writes.specs.Writes.{Write, IsShallow}

-- the numbers rise, and no leaf of an entry stands under more than 32 keys
pub record IsKept (writes : List Write) : Type 0 where
  pub rises : AllPairs (λ v w. v.id < w.id) writes
  pub shallow : All (λ w. All IsShallow w.entries) writes
