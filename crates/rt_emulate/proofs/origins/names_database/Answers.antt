use Rattle.std.proofs.Common.{codes}
use Rattle.std.proofs.lemmas.Str.Pattern.{starts_text}
use Rattle.rt_emulate.proofs.origins.names_database.Goals as goal

pub returns : goal.returns
returns c = starts_text c.starts_with.result (codes "ns=") c.args.parameter.now c.starts_with.ensures.cases
