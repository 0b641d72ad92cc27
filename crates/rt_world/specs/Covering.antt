-- The listens of a world are those of a cover that takes its changes of listeners.
use Rattle.std.specs.Prelude.{map, Option}
use Rattle.std.specs.Option.{option_map, option_map_or}
use Rattle.rt_cover.specs.declared.change.Delta.{Delta}
use Rattle.rt_cover.specs.State.{Cover, shown_with}
use Rattle.rt_cover.specs.Runs.{Change, changed}
use Rattle.rt_world.specs.declared.step.Step.{Step}
use Rattle.rt_world.specs.World.{World, registered}
use Rattle.rt_world.specs.After.{kind, listeners_after, started_by}
use Rattle.rt_world.specs.Messages.{stopped_by}

-- the cover of a world
abbrev pub cover_in : World → Cover
cover_in w = record {
  listeners = registered w.listeners;
  kept = w.kept;
  next_tag = w.next_tag;
  last_tag = w.limits.last_number;
}

-- the change of listeners that a step makes, if it makes one
abbrev pub change_by : World → Step → Option Change
change_by w s = option_map (λ c. c w) (kind s).change

-- the cover after that change
abbrev pub cover_after : World → Step → Cover
cover_after w s = option_map_or (changed (cover_in w)) (change_by w s) (cover_in w)

-- the listens that the step starts, each with its listener, and the tags of those that it stops
abbrev pub delta_by : World → Step → Delta
delta_by w s = record {
  started = map (shown_with (registered (listeners_after w s))) (started_by w s);
  stopped = map (λ k. k.tag) (stopped_by w s);
}
