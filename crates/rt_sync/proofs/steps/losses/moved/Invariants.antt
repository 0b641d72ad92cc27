use Rattle.std.proofs.Common.{◌≡◌, ◌&&◌, take}
use Rattle.std.specs.List.{list_any}
use Rattle.rt_query.specs.Queries.{Query}
use Rattle.rt_query.specs.QueryEq.{query_eq}
use Rattle.rt_cache.specs.Recover.{is_among}
use Rattle.rt_sync.specs.declared.steps.losses.Had.{Had}
use Rattle.rt_sync.specs.inside.Moving.{is_moved_now}
use Rattle.rt_sync.proofs.steps.losses.moved.Given as goal

-- those so far
abbrev pub invariant-loop-one : goal.invariant-loop-one
invariant-loop-one l =
    (q : Query) → is_among l.moved.items q ≡ list_any (λ (h : Had). query_eq h.query q && is_moved_now l.brought l.had h) (take l.one-index l.had)
