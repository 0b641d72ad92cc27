use Rattle.std.proofs.Common.{◌≡◌, ◌&&◌, ◌||◌, take}
use Rattle.rt_query.specs.Queries.{Query}
use Rattle.rt_cache.specs.Recover.{is_among}
use Rattle.rt_sync.specs.inside.Moving.{HaveSources, has_others, is_had}
use Rattle.rt_sync.proofs.steps.losses.push_all.Given as goal

-- those of the queries so far
abbrev pub invariant-loop-query : goal.invariant-loop-query
invariant-loop-query l = record {
  those : (q : Query) → is_had l.had.items q ≡ (is_had l.initial.had.items q || (is_among (take l.query-index l.queries) q && has_others l.brought q));
  sources : HaveSources l.brought l.initial.had.items → HaveSources l.brought l.had.items;
}
