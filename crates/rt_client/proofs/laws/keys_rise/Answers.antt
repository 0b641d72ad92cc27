use Rattle.std.specs.Prelude.{None}
use Rattle.rt_push.specs.laws.Ids.{stamps}
use Rattle.rt_client.proofs.Texts.{keys-rise, no-integer}
use Rattle.rt_client.proofs.laws.keys_rise.Goals as goal

pub returns-clause-rise : goal.returns-clause-rise
returns-clause-rise c = λ calls texts. keys-rise (stamps None calls) texts (c.ids_rise.ensures calls)

pub returns-clause-none : goal.returns-clause-none
returns-clause-none c = no-integer
