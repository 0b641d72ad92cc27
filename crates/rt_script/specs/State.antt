-- What the lines of a script act on.
use Rattle.std.specs.Prelude.{Option, Some, None}
use Rattle.rt_push.specs.PushIds.{Stamp}
use Rattle.rt_world.specs.World.{World, empty_world}
use Rattle.rt_world.specs.declared.limits.Limits.{Limits}

-- the world of a core, none once it has lacked memory, and what the last push id was made of, none before
-- the first
pub record State : Type 0 where
  pub world : Option World
  pub last_id : Option Stamp

-- before the first line
abbrev pub new_state : Limits → State
new_state limits = record { world = Some (empty_world limits); last_id = None }

-- another world
abbrev pub with_world : Option World → State → State
with_world world s = record s { world = world }
