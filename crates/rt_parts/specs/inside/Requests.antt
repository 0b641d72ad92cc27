-- What ties the requests, each under its number, to the pending writes.
use Rattle.std.specs.Prelude.{◌≡◌, ◌<◌, ℕ, List, map}
use Rattle.std.specs.List.{AllPairs}
use Rattle.std.specs.Map.{values_of}
use Rattle.rt_writes.specs.Writes.{Write}
use Rattle.rt_world.specs.declared.step.Request.{Request}
use Rattle.rt_world.specs.World.{pending}

-- a request under its number
abbrev pub entry_of : Request → ℕ × Request
entry_of r = (r.id, r)

-- each request stands under its number, the numbers rise, and the writes among them are pending
pub record IsTied (entries : List (ℕ × Request)) (writes : List Write) : Type 0 where
  pub numbered : entries ≡ map entry_of (values_of entries)
  pub rise : AllPairs (λ (r s : Request). r.id < s.id) (values_of entries)
  pub written : writes ≡ pending (values_of entries)
