use Rattle.std.proofs.Common.{◌≡◌, ◌&&◌, ◌||◌, Bool, drop}
use Rattle.std.specs.List.{list_any}
use Rattle.rt_query.specs.Queries.{Query}
use Rattle.rt_cache.specs.inside.Handing.{lent_queries, is_beside_one}
use Rattle.rt_cache.specs.inside.Listed.{queries_of}
use Rattle.rt_cache.proofs.Gathering.{AreWhole}
use Rattle.rt_cache.proofs.handover.lend_beside.Given as goal

-- those that are lent, and those of the paths of the ended forms that are left; where one is lent of a path, all are
abbrev pub invariant-loop-one : goal.invariant-loop-one
invariant-loop-one l =
    ((p : Query → Bool) → (list_any p (lent_queries l.lent.items) || list_any (λ f. is_beside_one l.windows (lent_queries (drop l.one-index l.ended)) f && p f) (queries_of l.forms))
    ≡ list_any (λ f. is_beside_one l.windows (lent_queries l.ended) f && p f) (queries_of l.forms))
    × AreWhole (queries_of l.forms) (lent_queries l.lent.items)
