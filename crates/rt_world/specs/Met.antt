-- Which listeners a step has to look at: those whose paths an entry of it meets.
use Rattle.std.specs.Prelude.{Bool, true, if◌then◌else◌, List, Option, Some, None}
use Rattle.std.specs.List.{filter_map, list_any}
use Rattle.rt_query.specs.Select.{select}
use Rattle.rt_tree.specs.PathTree.{Path, PathTree}
use Rattle.rt_tree.specs.Assignments.{Assignment, do_overlap}
use Rattle.rt_writes.specs.Writes.{Write}
use Rattle.rt_cache.specs.Brought.{Brought}
use Rattle.rt_world.specs.declared.report.Note.{Note}
use Rattle.rt_world.specs.World.{Listener}
use Rattle.rt_world.specs.After.{renewed}
use Rattle.rt_world.specs.Answers.{batch_from, batch_note}

-- the listener once its query sees that tree
abbrev pub seeing : PathTree → Listener → Listener
seeing t l = record l { is_primed = true; view = Some (select l.query t) }

-- the note of a listener that is renewed, if its view changes
abbrev pub told : Brought → List Write → Listener → Option Note
told b ws l = batch_note (renewed b ws l) (batch_from l.view (renewed b ws l))

-- whether an entry sits at, above or below the path
abbrev pub do_meet : List Assignment → Path → Bool
do_meet entries p = list_any (λ a. do_overlap a.0 p) entries

-- a listener whose path an entry meets is renewed, and another stays
abbrev pub renewed_met : List Assignment → Brought → List Write → Listener → Listener
renewed_met entries b ws l = if do_meet entries l.query.path then renewed b ws l else l

-- the note of a listener whose path an entry meets
abbrev pub told_met : List Assignment → Brought → List Write → Listener → Option Note
told_met entries b ws l = if do_meet entries l.query.path then told b ws l else None

-- the notes of all of these, by number
abbrev pub all_told : List Assignment → Brought → List Write → List Listener → List Note
all_told entries b ws listeners = filter_map (told_met entries b ws) listeners
