use Rattle.rt_store.proofs.WalkLaws.{row_rises, row_has_children, path_leads}
use Rattle.rt_store.proofs.store.walk_law.Goals as goal

pub returns-clause-rise : goal.returns-clause-rise
returns-clause-rise c = row_rises

pub returns-clause-children : goal.returns-clause-children
returns-clause-children c = row_has_children

pub returns-clause-lead : goal.returns-clause-lead
returns-clause-lead c = path_leads
