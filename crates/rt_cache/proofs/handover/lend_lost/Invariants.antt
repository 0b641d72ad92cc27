use Rattle.std.proofs.Common.{◌≡◌, ◌&&◌, ◌||◌, Bool, drop}
use Rattle.std.specs.List.{list_any}
use Rattle.rt_query.specs.Queries.{Query}
use Rattle.rt_cache.specs.inside.Handing.{lent_queries, is_under_lost_one}
use Rattle.rt_cache.specs.inside.Listed.{queries_of}
use Rattle.rt_cache.proofs.handover.lend_lost.Given as goal

-- those that are lent, and those under the regions of the spans that are left
abbrev pub invariant-loop-span : goal.invariant-loop-span
invariant-loop-span l =
    (p : Query → Bool) → (list_any p (lent_queries l.lent.items) || list_any (λ f. is_under_lost_one l.regions (drop l.span-index l.lost) f && p f) (queries_of l.forms))
    ≡ (list_any p (lent_queries l.initial.lent.items) || list_any (λ f. is_under_lost_one l.regions l.lost f && p f) (queries_of l.forms))
