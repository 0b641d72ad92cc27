-- Requests that are settled.
use Rattle.std.specs.Prelude.{ℕ, ◌==◌, List, [], Option, unwrap_or}
use Rattle.std.specs.List.{find}
use Rattle.std.specs.Option.{option_map}
use Rattle.rt_tree.specs.Assignments.{Assignment}
use Rattle.rt_writes.specs.Writes as writes
use Rattle.rt_world.specs.declared.step.Request.{Request}
use Rattle.rt_world.specs.World.{pending}
use Rattle.rt_parts.specs.declared.requests.Settled.{Settled}

-- the entries that the write of that number set, none where the request is no write
abbrev pub entries_set : ℕ → List Request → List Assignment
entries_set id requests = unwrap_or (writes.entries_of id (pending requests)) []

-- what is left of the request of that number, if it is unsettled
abbrev pub settled : ℕ → List Request → Option Settled
settled id requests =
    option_map
    (λ r. record { seat = r.seat; entries = entries_set id requests })
    (find (λ r. r.id == id) requests)
