use Rattle.std.proofs.Common.{refl}
use Rattle.std.specs.Char.{encode_utf8}
use Rattle.rt_input.proofs.text.plain_examples.Goals as goal

pub returns-clause-numbered : goal.returns-clause-numbered
unfolding encode_utf8
returns-clause-numbered c = refl
