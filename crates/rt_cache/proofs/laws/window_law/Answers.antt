use Rattle.rt_cache.proofs.FilteredRuns.{base_seen, source_holder, held_since, held_begun, handed_seen, supplied_same}
use Rattle.rt_cache.proofs.Registering.{registering}
use Rattle.rt_cache.proofs.laws.window_law.Goals as goal

pub returns-clause-told : goal.returns-clause-told
returns-clause-told c = base_seen

pub returns-clause-source : goal.returns-clause-source
returns-clause-source c = source_holder

pub returns-clause-since : goal.returns-clause-since
returns-clause-since c = held_since

pub returns-clause-begun : goal.returns-clause-begun
returns-clause-begun c = held_begun

pub returns-clause-handed : goal.returns-clause-handed
returns-clause-handed c = handed_seen

pub returns-clause-registering : goal.returns-clause-registering
returns-clause-registering c = registering

pub returns-clause-supplied : goal.returns-clause-supplied
returns-clause-supplied c = supplied_same
