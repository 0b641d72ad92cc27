use Rattle.std.proofs.Common.{◌≡◌, ◌&&◌, take}
use Rattle.rt_query.specs.Queries.{Query}
use Rattle.rt_sync.specs.inside.Moving.{HaveSources, is_had, is_lent, is_of_path}
use Rattle.rt_sync.proofs.steps.losses.had_at.Given as goal

-- those of the paths so far
abbrev pub invariant-loop-form : goal.invariant-loop-form
invariant-loop-form l = record {
  those : (q : Query) → is_had l.had.items q ≡ (is_of_path (take l.form-index l.forms) q.path && is_lent l.brought l.listeners.listeners q);
  sources : HaveSources l.brought l.had.items;
}
