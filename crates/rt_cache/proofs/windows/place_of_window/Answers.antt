use Rattle.std.proofs.Common.{◌∙◌}
use Rattle.std.specs.FinMap as map_of
use Rattle.rt_query.specs.QueryOrder.{query_cmp}
use Rattle.rt_cache.specs.inside.Held.{entries_of}
use Rattle.rt_cache.proofs.Listing.{found_any, none_unless}
use Rattle.rt_cache.proofs.windows.place_of_window.Goals as goal

pub returns-clause-known : goal.returns-clause-known
returns-clause-known c = c.place_of.ensures.known ∙ found_any c.args.query.now c.args.windows.now

pub returns-clause-none : goal.returns-clause-none
returns-clause-none c = none_unless c.place_of.result (map_of.find query_cmp c.args.query.now (entries_of c.args.windows.now)) (c.place_of.ensures.known ∙ found_any c.args.query.now c.args.windows.now)
