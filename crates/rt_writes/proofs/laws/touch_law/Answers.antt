use Rattle.rt_writes.specs.Writes.{assignments}
use Rattle.rt_writes.specs.laws.TouchLaws.{fold-untouched, fold-whole}
use Rattle.rt_writes.proofs.laws.touch_law.Goals as goal

pub returns-clause-elsewhere : goal.returns-clause-elsewhere
returns-clause-elsewhere c = λ p t writes h. fold-untouched p t (assignments writes) h

pub returns-clause-whole : goal.returns-clause-whole
returns-clause-whole c = λ p t u writes h. fold-whole p t u (assignments writes) h
