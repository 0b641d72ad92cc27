use Rattle.rt_query.proofs.Refusals.{none_refused}
use Rattle.rt_query.proofs.draft.Draft.start_after.Goals as goal

pub returns-clause-refused : goal.returns-clause-refused
returns-clause-refused c = none_refused _ _ _ c.in_ok-named.ensures.refused
